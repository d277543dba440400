-- Fields and parts: what was read stood in front, and what stands in front is read.
use Rattle.std.proofs.Common.{◌≡◌, ℕ, ◌^◌, ◌<◌, ◌≤◌, Bool, true, false, ltb, List, [], ◌++◌, length, Option, None, Some, Result, Ok, Err, refl, sym, ap, subst, ◌∙◌, arith}
use Rattle.std.proofs.lemmas.Bool.{ltb-true, lt-ltb}
use Rattle.std.specs.Prelude.{◌-◌, IfOk, IfSome, is_some}
use Rattle.compact_enc.specs.declared.fields.EncFault.{EncFault}
use Rattle.compact_enc.specs.Spelling.{uint_spelling, buffer_spelling}
use Rattle.compact_enc.specs.Reading.{IsBytes}
use Rattle.compact_enc.specs.Input.{Input, behind, uint_of, fixed_of, buffer_of}
use Rattle.compact_enc.proofs.Steps.{if_read, if_test}
use Rattle.compact_enc.proofs.Inputs.{Passed, Passed-then, uint_passes, fixed_passes, buffer_passes, ReadsBack, again_then, again_last, again_tested, again_nothing, uint_again_in, fixed_again_in, buffer_again_in}
use Rattle.proof_form.specs.declared.fields.TheConstants.{MAX_NUMBER}
use Rattle.proof_form.specs.declared.form.BadForm.{BadForm}
use Rattle.proof_form.specs.declared.form.Bad.TheVariants.{Flags, Count}
use Rattle.proof_form.specs.Form.{Read, in_form, number_of, fixed_in, buffer_in, part_spelling, part_of, start_of, span_of}

if_in_form : {A : Type 0} (r : Result A EncFault) (P : A → Type 0) → IfOk r P → IfOk (in_form r) P
if_in_form (Ok x) P p = p
if_in_form (Err fault) P p = tt

-- ---- what was read stood in front

pub number_passes : (max : ℕ) (input : Input) → IsBytes input.rest → IfOk (number_of max input) (λ x. Passed input (uint_spelling x.0) x.1 × (x.0 ≤ max))
number_passes max input fits = if_in_form (uint_of max input) _ (uint_passes max input fits)

pub fixed_in_passes : (count : ℕ) (input : Input) → IsBytes input.rest → IfOk (fixed_in count input) (λ x. Passed input x.0 x.1 × (length x.0 ≡ count))
fixed_in_passes count input fits = if_in_form (fixed_of count input) _ (fixed_passes count input fits)

pub buffer_in_passes : (max : ℕ) (input : Input) → IsBytes input.rest → IfOk (buffer_in max input) (λ x. Passed input (buffer_spelling x.0) x.1 × (length x.0 ≤ max))
buffer_in_passes max input fits = if_in_form (buffer_of max input) _ (buffer_passes max input fits)

-- nothing stood in front
pub nothing_passes : (input : Input) → IsBytes input.rest → Passed input [] input
nothing_passes input fits = record { parts = refl; fits = fits }

pub part_passes : {A : Type 0} (here : Bool) (read : Input → Read A) (spell : A → List ℕ) (Fits : A → Type 0) (input : Input) → IsBytes input.rest
    → IfOk (read input) (λ x. Passed input (spell x.0) x.1 × Fits x.0)
    → IfOk (part_of here read input) (λ x. Passed input (part_spelling spell x.0) x.1 × (is_some x.0 ≡ here) × IfSome x.0 Fits)
part_passes true read spell Fits input fits p = if_read (read input) _ (λ x. Passed input (spell x.0) x.1 × Fits x.0) _ p (λ x was. (was.0, refl, was.1))
part_passes false read spell Fits input fits p = (nothing_passes input fits, refl, tt)

pub start_passes : (test : ℕ → Bool) (input : Input) → IsBytes input.rest
    → IfOk (start_of test input) (λ x. Passed input (uint_spelling x.0.0 ++ uint_spelling x.0.1) x.1 × (x.0.0 ≤ MAX_NUMBER) × (test x.0.1 ≡ true))
unfolding start_of
start_passes test input fits =
    if_read (number_of MAX_NUMBER input) _ _ _ (number_passes MAX_NUMBER input fits) (λ fork f.
    if_read (number_of (2 ^ 64 - 1) fork.1) _ _ _ (number_passes (2 ^ 64 - 1) fork.1 f.0.fits) (λ flags g.
    if_test (test flags.0) ((fork.0, flags.0), flags.1) _ _ (λ ok.
    (Passed-then input fork.1 flags.1 (uint_spelling fork.0) (uint_spelling flags.0) f.0 g.0, f.1, ok))))

pub span_passes : (input : Input) → IsBytes input.rest
    → IfOk (span_of input) (λ x. Passed input (uint_spelling x.0.0 ++ uint_spelling x.0.1) x.1 × (x.0.0 < x.0.1) × (x.0.1 ≤ MAX_NUMBER))
unfolding span_of
span_passes input fits =
    if_read (number_of MAX_NUMBER input) _ _ _ (number_passes MAX_NUMBER input fits) (λ start s.
    if_read (number_of MAX_NUMBER start.1) _ _ _ (number_passes MAX_NUMBER start.1 s.0.fits) (λ blocks b.
    if_test (ltb start.0 blocks.0) ((start.0, blocks.0), blocks.1) _ _ (λ less.
    (Passed-then input start.1 blocks.1 (uint_spelling start.0) (uint_spelling blocks.0) s.0 b.0, ltb-true _ _ less, b.1))))

-- ---- what stands in front is read

pub number_again : (max n : ℕ) → n ≤ max → n < 2 ^ 64 → ReadsBack (number_of max) n (uint_spelling n)
number_again max n below fits input more is = ap in_form (uint_again_in max n below fits input more is)

pub fixed_in_again : (count : ℕ) (bytes : List ℕ) → length bytes ≡ count → ReadsBack (fixed_in count) bytes bytes
fixed_in_again count bytes len input more is = ap in_form (fixed_again_in count bytes len input more is)

pub buffer_in_again : (max : ℕ) (bytes : List ℕ) → length bytes ≤ max → length bytes < 2 ^ 64 → ReadsBack (buffer_in max) bytes (buffer_spelling bytes)
buffer_in_again max bytes below fits input more is = ap in_form (buffer_again_in max bytes below fits input more is)

pub part_again : {A : Type 0} (read : Input → Read A) (spell : A → List ℕ) (part : Option A)
    → IfSome part (λ x. ReadsBack read x (spell x)) → ReadsBack (part_of (is_some part) read) part (part_spelling spell part)
part_again read spell None p = again_nothing None
part_again read spell (Some x) p = again_last read Some x (spell x) p

pub start_again : (test : ℕ → Bool) (fork flags : ℕ) → fork ≤ MAX_NUMBER → flags < 2 ^ 64 → test flags ≡ true
    → ReadsBack (start_of test) (fork, flags) (uint_spelling fork ++ uint_spelling flags)
unfolding start_of
start_again test fork flags small fits ok =
    again_then (number_of MAX_NUMBER) _ fork (fork, flags) (uint_spelling fork) (uint_spelling flags) (number_again MAX_NUMBER fork small (omega (arith, small)))
    (again_tested (number_of (2 ^ 64 - 1)) test (λ n. (fork, n)) (λ input. record { at = input.place; why = Flags }) flags (uint_spelling flags) (number_again (2 ^ 64 - 1) flags (omega (arith, fits)) fits) ok)

pub span_again : (start blocks : ℕ) → start < blocks → blocks ≤ MAX_NUMBER → ReadsBack span_of (start, blocks) (uint_spelling start ++ uint_spelling blocks)
unfolding span_of
span_again start blocks less small =
    again_then (number_of MAX_NUMBER) _ start (start, blocks) (uint_spelling start) (uint_spelling blocks) (number_again MAX_NUMBER start (omega (arith, less, small)) (omega (arith, less, small)))
    (again_tested (number_of MAX_NUMBER) (λ n. ltb start n) (λ n. (start, n)) (λ input. record { at = input.place; why = Count }) blocks (uint_spelling blocks) (number_again MAX_NUMBER blocks small (omega (arith, small))) (lt-ltb start blocks less))

-- ---- what a call read

abbrev ok_or : {A : Type 0} → A → Result A BadForm → A
ok_or other (Ok x) = x
ok_or other (Err bad) = other

abbrev fine : {A : Type 0} → A → Result A BadForm
fine x = Ok x

-- what holds of what is read holds of what a call read
pub passed_read : {A : Type 0} (read : Read A) (x : A × Input) (P : A × Input → Type 0) → read ≡ Ok x → IfOk read P → P x
passed_read read x P is p = subst (λ r. IfOk r P) is p

-- a call that read a value read the one that is spelled in front
pub read_again : {A : Type 0} (read : Input → Read A) (input after : Input) (a : A) (more : List ℕ) (s : List ℕ) (b : A)
    → read input ≡ Ok (b, after) → ReadsBack read a s → input.rest ≡ s ++ more → (b ≡ a) × (after.rest ≡ more)
read_again {A} read input after a more s b was again is =
    let e : fine {A = A × Input} (b, after) ≡ fine (a, behind input more) = sym was ∙ again input more is in
    let other : A × Input = (a, input) in
    (ap (λ r. (ok_or other r).0) e, ap (λ r. (ok_or other r).1.rest) e)

-- a call that read no value had none spelled in front
pub not_again : {A : Type 0} (read : Input → Read A) (input : Input) (bad : BadForm) (a : A) (more : List ℕ) (s : List ℕ)
    → read input ≡ Err bad → ReadsBack read a s → input.rest ≡ s ++ more → ⊥
not_again {A} read input bad a more s was again is =
    let e : Err bad ≡ fine {A = A × Input} (a, behind input more) = sym was ∙ again input more is in
    cc

-- no spelling begins another
pub alone : {A : Type 0} (read : Input → Read A) (a b : A) (s t x y : List ℕ) → ReadsBack read a s → ReadsBack read b t → s ++ x ≡ t ++ y → (a ≡ b) × (x ≡ y)
alone read a b s t x y one other is =
    let input : Input = record { place = 0; rest = s ++ x } in
    read_again read input (behind input x) b y t a (one input x refl) other is
