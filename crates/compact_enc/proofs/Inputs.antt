-- Reading from an input: what was read stood in front, and what stands in front is read, whatever follows.
use Rattle.std.proofs.Common.{◌≡◌, ℕ, ◌+◌, ◌-◌, ◌^◌, ◌<◌, ◌≤◌, Bool, true, cond, List, [], ◌++◌, length, Result, Ok, Err, refl, sym, ap, ◌∙◌, append_assoc, length-append, arith}
use Rattle.std.specs.Prelude.{IfOk}
use Rattle.compact_enc.specs.Spelling.{uint_spelling, buffer_spelling}
use Rattle.compact_enc.specs.Reading.{IsBytes, Read, ◌>>=◌, bytes_at, uint_at, buffer_at}
use Rattle.compact_enc.specs.Input.{Input, behind, field_of, uint_of, fixed_of, buffer_of}
use Rattle.compact_enc.proofs.Steps.{if_read, if_more, Took, bytes_take, bytes_again}
use Rattle.compact_enc.proofs.Spellings.{uint_takes, uint_again, buffer_takes, buffer_again}

-- ---- what was read stood in front

-- the text stood in front of what is left, which are bytes
pub record Passed (old : Input) (text : List ℕ) (new : Input) : Type 0 where
  pub parts : old.rest ≡ text ++ new.rest
  pub fits : IsBytes new.rest

pub Passed-then : (old mid new : Input) (text more : List ℕ) → Passed old text mid → Passed mid more new → Passed old (text ++ more) new
Passed-then old mid new text more p q = record { parts = p.parts ∙ ap (λ l. text ++ l) q.parts ∙ sym (append_assoc text more new.rest); fits = q.fits }

-- the same of a field
field_passes : {A : Type 0} (input : Input) (read : Read A) (spell : A → List ℕ) (P : A → Type 0)
    → IfOk read (λ x. Took input.rest (spell x.0) x.1 × P x.0) → IfOk (field_of input read) (λ x. Passed input (spell x.0) x.1 × P x.0)
field_passes input read spell P took =
    if_read read _ (λ x. Took input.rest (spell x.0) x.1 × P x.0) _ took (λ x t. (record { parts = t.0.parts; fits = t.0.fits }, t.1))

pub uint_passes : (max : ℕ) (input : Input) → IsBytes input.rest → IfOk (uint_of max input) (λ x. Passed input (uint_spelling x.0) x.1 × (x.0 ≤ max))
uint_passes max input fits = field_passes input (uint_at max input.place input.rest) uint_spelling (λ n. n ≤ max) (uint_takes max input.place input.rest fits)

pub fixed_passes : (count : ℕ) (input : Input) → IsBytes input.rest → IfOk (fixed_of count input) (λ x. Passed input x.0 x.1 × (length x.0 ≡ count))
fixed_passes count input fits =
    field_passes input (bytes_at count input.place input.rest) (λ bytes. bytes) (λ bytes. length bytes ≡ count)
    (if_more (bytes_at count input.place input.rest) (λ x. Took input.rest x.0 x.1 × (length x.0 ≡ count) × IsBytes x.0) _ (bytes_take count input.place input.rest fits) (λ x t. (t.0, t.1)))

pub buffer_passes : (max : ℕ) (input : Input) → IsBytes input.rest → IfOk (buffer_of max input) (λ x. Passed input (buffer_spelling x.0) x.1 × (length x.0 ≤ max))
buffer_passes max input fits = field_passes input (buffer_at max input.place input.rest) buffer_spelling (λ bytes. length bytes ≤ max) (buffer_takes max input.place input.rest fits)

-- ---- what stands in front is read

-- where this text stands in front, the value is read, and what follows is left
abbrev pub ReadsBack : {A E : Type 0} → (Input → Result (A × Input) E) → A → List ℕ → Type 0
ReadsBack read value text = (input : Input) (more : List ℕ) → input.rest ≡ text ++ more → read input ≡ Ok (value, behind input more)

abbrev input_at : ℕ → List ℕ → Input
input_at place rest = record { place = place; rest = rest }

behind-behind : (input : Input) (s t more : List ℕ) → input.rest ≡ s ++ (t ++ more) → behind (behind input (t ++ more)) more ≡ behind input more
behind-behind input s t more is =
    let places : (input.place + (length input.rest - length (t ++ more))) + (length (t ++ more) - length more) ≡ input.place + (length input.rest - length more) =
    omega (arith, ap length is, length-append s (t ++ more), length-append t more) in
    ap (λ p. input_at p more) places

-- one text behind the other
pub again_then : {A B E : Type 0} (read : Input → Result (A × Input) E) (next : A × Input → Result (B × Input) E) (a : A) (b : B) (s t : List ℕ)
    → ReadsBack read a s → ReadsBack (λ input. next (a, input)) b t → ReadsBack (λ input. read input >>= next) b (s ++ t)
again_then read next a b s t first second input more is =
    let split : input.rest ≡ s ++ (t ++ more) = is ∙ append_assoc s t more in
    ap (λ r. r >>= next) (first input (t ++ more) split)
    ∙ second (behind input (t ++ more)) more refl
    ∙ ap (λ (i : Input). Ok (b, i)) (behind-behind input s t more split)

-- a last step, which reads nothing more
pub again_last : {A B E : Type 0} (read : Input → Result (A × Input) E) (f : A → B) (a : A) (s : List ℕ)
    → ReadsBack read a s → ReadsBack (λ input. read input >>= λ x. Ok (f x.0, x.1)) (f a) s
again_last read f a s first input more is = ap (λ r. r >>= λ x. Ok (f x.0, x.1)) (first input more is)

-- a last step, which is a test that is passed
pub again_tested : {A B E : Type 0} (read : Input → Result (A × Input) E) (test : A → Bool) (f : A → B) (bad : Input → E) (a : A) (s : List ℕ)
    → ReadsBack read a s → test a ≡ true → ReadsBack (λ input. read input >>= λ x. cond (test x.0) (Ok (f x.0, x.1)) (Err (bad input))) (f a) s
again_tested read test f bad a s first passed input more is =
    ap (λ r. r >>= λ x. cond (test x.0) (Ok (f x.0, x.1)) (Err (bad input))) (first input more is)
    ∙ ap (λ b. cond b (Ok (f a, behind input more)) (Err (bad input))) passed

-- nothing is read
pub again_nothing : {A E : Type 0} (a : A) → ReadsBack {E = E} (λ input. Ok (a, input)) a []
again_nothing a input more is =
    let places : input.place ≡ input.place + (length input.rest - length more) = omega (arith, ap length is) in
    ap (λ p. Ok (a, input_at p input.rest)) places ∙ ap (λ r. Ok (a, input_at (input.place + (length input.rest - length more)) r)) is

pub uint_again_in : (max n : ℕ) → n ≤ max → n < 2 ^ 64 → ReadsBack (uint_of max) n (uint_spelling n)
uint_again_in max n below fits input more is =
    ap (field_of input) (ap (uint_at max input.place) is ∙ uint_again max input.place n more below fits)

pub fixed_again_in : (count : ℕ) (bytes : List ℕ) → length bytes ≡ count → ReadsBack (fixed_of count) bytes bytes
fixed_again_in count bytes len input more is = ap (field_of input) (ap (bytes_at count input.place) is ∙ bytes_again bytes more count input.place len)

pub buffer_again_in : (max : ℕ) (bytes : List ℕ) → length bytes ≤ max → length bytes < 2 ^ 64 → ReadsBack (buffer_of max) bytes (buffer_spelling bytes)
buffer_again_in max bytes below fits input more is = ap (field_of input) (ap (buffer_at max input.place) is ∙ buffer_again max input.place bytes more below fits)
