-- Fields: what was read stood in front, and what stands in front is read.
use Rattle.std.proofs.Common.{◌≡◌, ℕ, ◌^◌, ◌-◌, ◌<◌, ◌≤◌, eqb, ltb, List, [], ◌∷◌, ◌++◌, length, Result, Ok, Err, refl, sym, ap, ◌∙◌, append-nil, arith}
use Rattle.std.proofs.lemmas.Bool.{eqb-true, eq-eqb, ltb-false}
use Rattle.std.specs.Prelude.{IfOk}
use Rattle.merkle_nodes.specs.declared.roots.Head.{Head}
use Rattle.flat_tree.specs.declared.limits.TheConstants.{MAX_BLOCKS, MAX_FORK}
use Rattle.compact_enc.specs.declared.fields.EncFault.{EncFault}
use Rattle.compact_enc.specs.Spelling.{uint_spelling}
use Rattle.compact_enc.specs.Reading.{IsBytes, ◌>>=◌, Gives}
use Rattle.compact_enc.specs.Input.{Input, behind, uint_of, fixed_of, Yields}
use Rattle.compact_enc.proofs.Steps.{if_read, if_test, if_passed}
use Rattle.compact_enc.proofs.Inputs.{Passed, Passed-then, uint_passes, fixed_passes, ReadsBack, again_then, again_last, again_tested, uint_again_in, fixed_again_in}
use Rattle.oplog_form.specs.declared.form.BadForm.{BadForm}
use Rattle.oplog_form.specs.Form.{Read, in_form, number_of, fixed_in, just_of, both_of, unread, alone}
use Rattle.oplog_form.specs.Heads.{head_spelling, HeadFits, head_in}

-- ---- what was read stood in front

-- the field stood in front, and is in its range
abbrev pub FieldPasses : {A : Type 0} → (Input → Read A) → (A → List ℕ) → (A → Type 0) → Type 0
FieldPasses read spell Fits = (input : Input) → IsBytes input.rest → IfOk (read input) (λ x. Passed input (spell x.0) x.1 × Fits x.0)

if_in_form : {A : Type 0} (r : Result A EncFault) (P : A → Type 0) → IfOk r P → IfOk (in_form r) P
if_in_form (Ok x) P p = p
if_in_form (Err fault) P p = tt

pub number_passes : (max : ℕ) → FieldPasses (number_of max) uint_spelling (λ n. n ≤ max)
number_passes max input fits = if_in_form (uint_of max input) _ (uint_passes max input fits)

pub fixed_in_passes : (count : ℕ) → FieldPasses (fixed_in count) (λ bytes. bytes) (λ bytes. length bytes ≡ count)
fixed_in_passes count input fits = if_in_form (fixed_of count input) _ (fixed_passes count input fits)

pub just_passes : (n : ℕ) → FieldPasses (just_of n) uint_spelling (λ m. m ≡ n)
unfolding just_of
just_passes n input fits =
    if_read (number_of (2 ^ 64 - 1) input) _ _ _ (number_passes (2 ^ 64 - 1) input fits) (λ number p.
    if_test (eqb number.0 n) number _ _ (λ same. (p.0, eqb-true _ _ same)))

pub both_pass : {A B : Type 0} (one : Input → Read A) (other : Input → Read B) (s : A → List ℕ) (t : B → List ℕ) (F : A → Type 0) (G : B → Type 0)
    → FieldPasses one s F → FieldPasses other t G → FieldPasses (both_of one other) (λ x. s x.0 ++ t x.1) (λ x. F x.0 × G x.1)
unfolding both_of
both_pass one other s t F G first second input fits =
    if_read (one input) _ _ _ (first input fits) (λ a p.
    if_read (other a.1) _ _ _ (second a.1 p.0.fits) (λ b q.
    (Passed-then input a.1 b.1 (s a.0) (t b.0) p.0 q.0, (p.1, q.1))))

pub head_passes : FieldPasses head_in head_spelling HeadFits
unfolding head_in
head_passes input fits =
    if_read (number_of MAX_FORK input) _ _ _ (number_passes MAX_FORK input fits) (λ fork f.
    if_read (number_of MAX_BLOCKS fork.1) _ _ _ (number_passes MAX_BLOCKS fork.1 f.0.fits) (λ blocks b.
    if_read (fixed_in 64 blocks.1) _ _ _ (fixed_in_passes 64 blocks.1 b.0.fits) (λ signature s.
    (Passed-then input fork.1 signature.1 _ _ f.0 (Passed-then fork.1 blocks.1 signature.1 _ _ b.0 s.0), record { fork = f.1; few = b.1; signature = s.1 }))))

-- ---- what stands in front is read

pub number_again : (max n : ℕ) → n ≤ max → n < 2 ^ 64 → ReadsBack (number_of max) n (uint_spelling n)
number_again max n below fits input more is = ap in_form (uint_again_in max n below fits input more is)

pub fixed_in_again : (count : ℕ) (bytes : List ℕ) → length bytes ≡ count → ReadsBack (fixed_in count) bytes bytes
fixed_in_again count bytes len input more is = ap in_form (fixed_again_in count bytes len input more is)

pub just_again : (n : ℕ) → n < 2 ^ 64 → ReadsBack (just_of n) n (uint_spelling n)
unfolding just_of
just_again n fits input more is =
    again_tested (number_of (2 ^ 64 - 1)) (λ m. eqb m n) (λ m. m) (λ i. record { at = input.place }) n (uint_spelling n)
    (number_again (2 ^ 64 - 1) n (omega (arith, fits)) fits) (eq-eqb n n refl) input more is

pub both_again : {A B : Type 0} (one : Input → Read A) (other : Input → Read B) (a : A) (b : B) (s t : List ℕ)
    → ReadsBack one a s → ReadsBack other b t → ReadsBack (both_of one other) (a, b) (s ++ t)
unfolding both_of
both_again one other a b s t first second = again_then one _ a (a, b) s t first (again_last other (λ y. (a, y)) b t second)

pub head_again : (head : Head) → HeadFits head → ReadsBack head_in head (head_spelling head)
unfolding head_in
head_again head fits =
    again_then (number_of MAX_FORK) _ head.fork head (uint_spelling head.fork) (uint_spelling head.length ++ head.signature) (number_again MAX_FORK head.fork fits.fork (omega (arith, fits.fork)))
    (again_then (number_of MAX_BLOCKS) _ head.length head (uint_spelling head.length) head.signature (number_again MAX_BLOCKS head.length fits.few (omega (arith, fits.few)))
    (again_last (fixed_in 64) (λ signature. record { fork = head.fork; length = head.length; signature = signature }) head.signature head.signature (fixed_in_again 64 head.signature fits.signature)))

-- ---- what is all of the bytes

-- where what is read stood in front, all of the bytes are spelled so
pub whole_passes : {A : Type 0} (read : Input → Read A) (spell : A → List ℕ) (Fits : A → Type 0) (bytes : List ℕ) → IsBytes bytes → FieldPasses read spell Fits
    → IfOk (read (unread bytes) >>= λ x. alone x.0 x.1) (λ a. (bytes ≡ spell a) × Fits a)
whole_passes read spell Fits bytes fits pass =
    if_read (read (unread bytes)) _ _ _ (pass (unread bytes) fits) (λ x p.
    if_passed (ltb 0 (length x.1.rest)) (Ok x.0) _ _ (λ none.
    (p.0.parts ∙ ap (λ l. spell x.0 ++ l) (empty x.1.rest (ltb-false _ _ none)) ∙ append-nil (spell x.0), p.1)))
  where
    empty : (rest : List ℕ) → length rest ≤ 0 → rest ≡ []
    empty [] small = refl
    empty (byte ∷ rest) small = absurd (omega (arith, small))

-- and where they are spelled so, it is read
pub whole_again : {A : Type 0} (read : Input → Read A) (a : A) (text : List ℕ) → ReadsBack read a text → (read (unread text) >>= λ x. alone x.0 x.1) ≡ Ok a
whole_again read a text again = ap (λ r. r >>= λ x. alone x.0 x.1) (again (unread text) [] (sym (append-nil text)))

abbrev ok_or : {A : Type 0} → A → Result A BadForm → A
ok_or other (Ok x) = x
ok_or other (Err bad) = other

abbrev fine : {A : Type 0} → A → Result A BadForm
fine x = Ok x

-- a call that gives what reading gives yields the value that is read
pub yields_read : {A : Type 0} (r read : Result A BadForm) (a : A) → Gives (λ x. x) r read → read ≡ Ok a → Yields (λ x. x) r a
yields_read (Ok x) read a gives is = ap (ok_or a) (sym gives ∙ is)
yields_read (Err bad) read a gives is =
    let e : Err bad ≡ fine a = sym gives ∙ is in
    cc

-- no spelling begins another
pub one_value : {A : Type 0} (read : Input → Read A) (a b : A) (s t x y : List ℕ) → ReadsBack read a s → ReadsBack read b t → s ++ x ≡ t ++ y → (a ≡ b) × (x ≡ y)
one_value {A} read a b s t x y one other is =
    let input : Input = record { place = 0; rest = s ++ x } in
    let e : fine {A = A × Input} (a, behind input x) ≡ fine (b, behind input y) = sym (one input x refl) ∙ other input y is in
    let none : A × Input = (a, input) in
    (ap (λ r. (ok_or none r).0) e, ap (λ r. (ok_or none r).1.rest) e)
