-- The type of a message, which is its own spelling as a number.
use Rattle.std.proofs.Common.{◌≡◌, ℕ, suc, ◌+◌, ◌-◌, ◌≤◌, List, [], ◌∷◌, ◌++◌, length, get_or, Ok, Err, refl, sym, ap, ◌∙◌, arith}
use Rattle.std.proofs.lemmas.Bool.{lt-ltb, le-ltb}
use Rattle.compact_enc.specs.declared.marks.TheConstants.{LEAST_U16}
use Rattle.compact_enc.specs.Spelling.{uint_spelling}
use Rattle.compact_enc.specs.Input.{Input}
use Rattle.proof_form.specs.declared.form.BadForm.{BadForm}
use Rattle.proof_form.specs.Form.{Read, number_of}
use Rattle.proof_form.proofs.FieldLaws.{number_again}
use Rattle.wire_messages.specs.declared.message.TheConstants.{EXTENSION}
use Rattle.wire_messages.specs.Reading.{kind_of}

abbrev input_at : ℕ → List ℕ → Input
input_at place rest = record { place = place; rest = rest }

kind_again : (kind : ℕ) (rest : List ℕ) → kind ≤ EXTENSION → number_of EXTENSION (input_at 0 (kind ∷ rest)) ≡ Ok (kind, input_at 1 rest)
unfolding uint_spelling
kind_again kind rest known =
    let own : uint_spelling kind ≡ kind ∷ [] = rw (lt-ltb kind LEAST_U16 (omega (arith, known))) refl in
    let places : 0 + (suc (length rest) - length rest) ≡ 1 = omega arith in
    number_again EXTENSION kind known (omega (arith, known)) (input_at 0 (kind ∷ rest)) rest (ap (λ s. s ++ rest) (sym own))
    ∙ ap (λ p. Ok (kind, input_at p rest)) places

abbrev input_or : Input → Read ℕ → Input
input_or other (Ok x) = x.1
input_or other (Err bad) = other

abbrev bad_read : BadForm → Read ℕ
bad_read bad = Err bad

-- an input of which nothing is read
begun : (body : List ℕ) (from : Input) → from.place ≡ 0 → from.rest ≡ body → number_of EXTENSION from ≡ number_of EXTENSION (input_at 0 body)
begun body from place rest = ap (λ p. number_of EXTENSION (input_at p from.rest)) place ∙ ap (λ r. number_of EXTENSION (input_at 0 r)) rest

-- what is read as a number of it is the type
pub kind_read : (body : List ℕ) (from after : Input) (n : ℕ) → 1 ≤ length body → get_or body 0 0 ≤ EXTENSION → from.place ≡ 0 → from.rest ≡ body
    → number_of EXTENSION from ≡ Ok (n, after) → kind_of body ≡ Ok (get_or body 0 0, after)
unfolding kind_of
kind_read [] from after n some known place rest was = absurd (omega (arith, some))
kind_read (kind ∷ more) from after n some known place rest was =
    let same : input_at 1 more ≡ after = ap (input_or from) (sym (kind_again kind more known) ∙ sym (begun (kind ∷ more) from place rest) ∙ was) in
    rw (le-ltb EXTENSION kind known) (ap (λ i. Ok (kind, i)) same)

-- and it is read
pub kind_is_read : (body : List ℕ) (from : Input) (bad : BadForm) → 1 ≤ length body → get_or body 0 0 ≤ EXTENSION → from.place ≡ 0 → from.rest ≡ body
    → number_of EXTENSION from ≡ Err bad → ⊥
kind_is_read [] from bad some known place rest was = absurd (omega (arith, some))
kind_is_read (kind ∷ more) from bad some known place rest was =
    let e : bad_read bad ≡ Ok (kind, input_at 1 more) = sym was ∙ begun (kind ∷ more) from place rest ∙ kind_again kind more known in
    cc
