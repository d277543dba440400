-- Steps of a reader, and bytes as they are.
use Rattle.std.proofs.Common.{◌≡◌, ℕ, ◌+◌, Bool, true, false, cond, leb, List, ◌++◌, length, take, drop, Result, Ok, Err, refl, sym, ap, subst, ◌∙◌, append_assoc, arith, inl, inr}
use Rattle.std.specs.Prelude.{IfOk}
use Rattle.std.proofs.lemmas.Bool.{cases_lt, leb-true, le-leb}
use Rattle.std.proofs.lemmas.List.{take_at, drop_at, take-append-drop, length-append, length-take, length-take-le, get_or-drop, get_or-take, get_or_past}
use Rattle.compact_enc.specs.declared.fields.EncFault.TheVariants.{Short}
use Rattle.compact_enc.specs.Reading.{IsBytes, ◌>>=◌, Gives, bytes_at}

IsBytes-drop : (n : ℕ) (bytes : List ℕ) → IsBytes bytes → IsBytes (drop n bytes)
IsBytes-drop n bytes h i = rw get_or-drop (h (n + i))

IsBytes-take : (n : ℕ) (bytes : List ℕ) → IsBytes bytes → IsBytes (take n bytes)
IsBytes-take n bytes h i =
    elim (cases_lt i n) [
      | inl lt ↦ rw (get_or-take n bytes i 0 lt) (h i)
      | inr le ↦ rw (get_or_past (take n bytes) i 0 (omega (arith, length-take n bytes))) (omega arith)
    ]

-- what a reader's value is known to be goes on to the next step
pub if_read : {A B E : Type 0} (r : Result A E) (f : A → Result B E) (P : A → Type 0) (Q : B → Type 0)
    → IfOk r P → ((x : A) → P x → IfOk (f x) Q) → IfOk (r >>= f) Q
if_read (Ok x) f P Q p next = next x p
if_read (Err fault) f P Q p next = tt

-- what is known of a reader's value, said otherwise
pub if_more : {A E : Type 0} (r : Result A E) (P Q : A → Type 0) → IfOk r P → ((x : A) → P x → Q x) → IfOk r Q
if_more (Ok x) P Q p next = next x p
if_more (Err fault) P Q p next = tt

-- a test that has to be passed
pub if_test : {A E : Type 0} (b : Bool) (x : A) (fault : E) (P : A → Type 0) → (b ≡ true → P x) → IfOk {E = E} (cond b (Ok x) (Err fault)) P
if_test true x fault P h = h refl
if_test false x fault P h = tt

-- a reader behind a test that has to be passed
pub if_kept : {A E : Type 0} (b : Bool) (r : Result A E) (fault : E) (P : A → Type 0) → (b ≡ true → IfOk r P) → IfOk {E = E} (cond b r (Err fault)) P
if_kept true r fault P h = h refl
if_kept false r fault P h = tt

-- a test that has to fail
pub if_passed : {A E : Type 0} (b : Bool) (r : Result A E) (fault : E) (P : A → Type 0) → (b ≡ false → IfOk r P) → IfOk {E = E} (cond b (Err fault) r) P
if_passed true r fault P h = tt
if_passed false r fault P h = h refl

-- two readers, one of which is chosen
pub if_chosen : {A E : Type 0} (b : Bool) (r s : Result A E) (P : A → Type 0) → (b ≡ true → IfOk r P) → (b ≡ false → IfOk s P) → IfOk {E = E} (cond b r s) P
if_chosen true r s P first second = first refl
if_chosen false r s P first second = second refl

-- what holds of what reading gives holds of what a reader returned
pub if_given : {X Y E : Type 0} (view : X → Y) (r : Result X E) (read : Result Y E) (P : Y → Type 0)
    → Gives view r read → IfOk read P → IfOk r (λ x. P (view x))
if_given view (Ok x) read P gives p = subst (λ s. IfOk s P) gives p
if_given view (Err fault) read P gives p = tt

-- the text stood in front of the rest
pub record Took (bytes text rest : List ℕ) : Type 0 where
  pub parts : bytes ≡ text ++ rest
  pub fits : IsBytes rest

pub Took-then : (bytes text rest more after : List ℕ) → Took bytes text rest → Took rest more after → Took bytes (text ++ more) after
Took-then bytes text rest more after p q = record { parts = p.parts ∙ ap (λ l. text ++ l) q.parts ∙ sym (append_assoc text more after); fits = q.fits }

pub bytes_take : (count at : ℕ) (bytes : List ℕ) → IsBytes bytes
    → IfOk (bytes_at count at bytes) (λ x. Took bytes x.0 x.1 × (length x.0 ≡ count) × IsBytes x.0)
unfolding bytes_at
bytes_take count at bytes fits =
    if_test (leb count (length bytes)) (take count bytes, drop count bytes) (Short at) (λ x. Took bytes x.0 x.1 × (length x.0 ≡ count) × IsBytes x.0) (λ enough. (
      record { parts = sym (take-append-drop count bytes); fits = IsBytes-drop count bytes fits },
      length-take-le count bytes (leb-true _ _ enough),
      IsBytes-take count bytes fits,
    ))

pub bytes_again : (text rest : List ℕ) (count at : ℕ) → length text ≡ count → bytes_at count at (text ++ rest) ≡ Ok (text, rest)
unfolding bytes_at
bytes_again text rest count at len =
    let enough : leb count (length (text ++ rest)) ≡ true = le-leb _ _ (omega (arith, length-append text rest, len)) in
    rw (enough, take_at text rest count len, drop_at text rest count len) refl
