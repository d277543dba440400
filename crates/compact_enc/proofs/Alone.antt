-- No spelling begins another, and what is spelled is what a reader answers.
use Rattle.std.proofs.Common.{◌≡◌, ℕ, ◌-◌, ◌^◌, ◌<◌, ◌≤◌, List, ◌++◌, length, Result, Ok, Err, sym, ap, ◌∙◌, length-append, arith}
use Rattle.std.specs.Prelude.{IfOk}
use Rattle.compact_enc.specs.declared.fields.EncFault.{EncFault}
use Rattle.compact_enc.specs.Spelling.{uint_spelling, buffer_spelling}
use Rattle.compact_enc.specs.Reading.{IsBytes, Read, Gives, bytes_at, uint_at, buffer_at}
use Rattle.compact_enc.specs.Input.{Yields}
use Rattle.compact_enc.proofs.Steps.{if_more, Took, bytes_take}
use Rattle.compact_enc.proofs.Spellings.{uint_takes, uint_again, buffer_takes, buffer_again}

abbrev ok_or : {A : Type 0} → A → Result A EncFault → A
ok_or other (Ok x) = x
ok_or other (Err fault) = other

abbrev fine : {A : Type 0} → A → Result A EncFault
fine x = Ok x

same_read : {A : Type 0} (a b : A) (x y : List ℕ) → fine {A = A × List ℕ} (a, x) ≡ fine (b, y) → (a ≡ b) × (x ≡ y)
same_read {A} a b x y e =
    let p : A × List ℕ = (a, x) in
    (ap (λ r. (ok_or p r).0) e, ap (λ r. (ok_or p r).1) e)

pub uint_alone : (m n : ℕ) (x y : List ℕ) → m < 2 ^ 64 → n < 2 ^ 64 → uint_spelling m ++ x ≡ uint_spelling n ++ y → (m ≡ n) × (x ≡ y)
uint_alone m n x y p q e =
    let max = 2 ^ 64 - 1 in
    same_read m n x y (sym (uint_again max 0 m x (omega (arith, p)) p) ∙ ap (uint_at max 0) e ∙ uint_again max 0 n y (omega (arith, q)) q)

pub buffer_alone : (a b x y : List ℕ) → length a < 2 ^ 64 → length b < 2 ^ 64 → buffer_spelling a ++ x ≡ buffer_spelling b ++ y → (a ≡ b) × (x ≡ y)
buffer_alone a b x y p q e =
    let max = 2 ^ 64 - 1 in
    same_read a b x y (sym (buffer_again max 0 a x (omega (arith, p)) p) ∙ ap (buffer_at max 0) e ∙ buffer_again max 0 b y (omega (arith, q)) q)

-- what is read is what the call returned
pub yields_given : {X Y : Type 0} (view : X → Y) (r : Result X EncFault) (read : Result Y EncFault) (y : Y) → Gives view r read → read ≡ Ok y → Yields view r y
yields_given view (Ok x) read y gives is =
    let e : fine (view x) ≡ fine y = sym gives ∙ is in
    ap (ok_or y) e
yields_given view (Err fault) read y gives is =
    let e : Err fault ≡ fine y = sym gives ∙ is in
    cc

-- ---- what stood in front

pub uint_found : (max at : ℕ) (bytes : List ℕ) → IsBytes bytes → IfOk (uint_at max at bytes) (λ x. bytes ≡ uint_spelling x.0 ++ x.1)
uint_found max at bytes fits =
    if_more (uint_at max at bytes) (λ x. Took bytes (uint_spelling x.0) x.1 × (x.0 ≤ max)) _ (uint_takes max at bytes fits) (λ x took. took.0.parts)

pub uint_within : (max at : ℕ) (bytes : List ℕ) → IsBytes bytes → IfOk (uint_at max at bytes) (λ x. x.0 ≤ max)
uint_within max at bytes fits =
    if_more (uint_at max at bytes) (λ x. Took bytes (uint_spelling x.0) x.1 × (x.0 ≤ max)) _ (uint_takes max at bytes fits) (λ x took. took.1)

pub bytes_found : (count at : ℕ) (bytes : List ℕ) → IsBytes bytes → IfOk (bytes_at count at bytes) (λ x. bytes ≡ x.0 ++ x.1)
bytes_found count at bytes fits =
    if_more (bytes_at count at bytes) (λ x. Took bytes x.0 x.1 × (length x.0 ≡ count) × IsBytes x.0) _ (bytes_take count at bytes fits) (λ x took. took.0.parts)

pub buffer_found : (max at : ℕ) (bytes : List ℕ) → IsBytes bytes → IfOk (buffer_at max at bytes) (λ x. bytes ≡ buffer_spelling x.0 ++ x.1)
buffer_found max at bytes fits =
    if_more (buffer_at max at bytes) (λ x. Took bytes (buffer_spelling x.0) x.1 × (length x.0 ≤ max)) _ (buffer_takes max at bytes fits) (λ x took. took.0.parts)

-- no more is left than there was
pub found_within : {A : Type 0} (spell : A → List ℕ) (bytes : List ℕ) (read : Read A) → IfOk read (λ x. bytes ≡ spell x.0 ++ x.1) → IfOk read (λ x. length x.1 ≤ length bytes)
found_within spell bytes read found = if_more read (λ x. bytes ≡ spell x.0 ++ x.1) _ found (λ x is. rw is (omega (arith, length-append (spell x.0) x.1)))
