-- Messages: what is read is spelled so.
use Rattle.std.proofs.Common.{◌≡◌, ℕ, zero, suc, ◌^◌, ◌-◌, ◌%◌, ◌≤◌, true, false, eqb, ltb, List, [], ◌∷◌, ◌++◌, length, Ok, refl, sym, ap, subst, ◌∙◌, append-nil, arith}
use Rattle.std.specs.Prelude.{IfOk, ⊤}
use Rattle.std.proofs.lemmas.Bool.{eqb-true, eqb-false, eq-eqb, ltb-false}
use Rattle.compact_enc.specs.Spelling.{uint_spelling, buffer_spelling}
use Rattle.compact_enc.specs.Reading.{IsBytes}
use Rattle.compact_enc.specs.Input.{Input}
use Rattle.compact_enc.proofs.Steps.{if_read, if_test, if_passed, if_chosen}
use Rattle.compact_enc.proofs.Inputs.{Passed, Passed-then}
use Rattle.proof_form.specs.declared.fields.TheConstants.{MAX_NUMBER}
use Rattle.proof_form.specs.Form.{Read, number_of, fixed_in, buffer_in}
use Rattle.proof_form.specs.Requests.{RequestFits, request_spelling, request_of}
use Rattle.proof_form.specs.Proofs.{ProofFits, proof_spelling, proof_of}
use Rattle.proof_form.proofs.FieldLaws.{number_passes, fixed_in_passes, buffer_in_passes}
use Rattle.proof_form.proofs.RequestLaws.{request_passes}
use Rattle.proof_form.proofs.ProofLaws.{proof_passes}
use Rattle.wire_messages.specs.declared.message.TheConstants.{OPEN_CORE, SYNC, ASK, CANCEL, ANSWER, NO_DATA, WANT, UNWANT, BITFIELD, RANGE, EXTENSION, PAGE_BLOCKS, PAGE_BYTES}
use Rattle.wire_messages.specs.Messages.{Message, open_core, sync, ask, cancel, answer, no_data, want, unwant, bitfield, range, extension, type_of, drop_number, fields_spelling, message_spelling, MessageFits}
use Rattle.wire_messages.specs.Reading.{both_of, small_of, page_of, drop_of, made, kind_of, fields_of, message_of}

-- ---- fields

-- the field stood in front, and is in its range
abbrev FieldPasses : {A : Type 0} → (Input → Read A) → (A → List ℕ) → (A → Type 0) → Type 0
FieldPasses read spell Fits = (input : Input) → IsBytes input.rest → IfOk (read input) (λ x. Passed input (spell x.0) x.1 × Fits x.0)

both_pass : {A B : Type 0} (one : Input → Read A) (other : Input → Read B) (s : A → List ℕ) (t : B → List ℕ) (F : A → Type 0) (G : B → Type 0)
    → FieldPasses one s F → FieldPasses other t G → FieldPasses (both_of one other) (λ x. s x.0 ++ t x.1) (λ x. F x.0 × G x.1)
unfolding both_of
both_pass one other s t F G first second input fits =
    if_read (one input) _ _ _ (first input fits) (λ a p.
    if_read (other a.1) _ _ _ (second a.1 p.0.fits) (λ b q.
    (Passed-then input a.1 b.1 (s a.0) (t b.0) p.0 q.0, (p.1, q.1))))

small_passes : FieldPasses small_of uint_spelling (λ n. n ≤ MAX_NUMBER)
small_passes = number_passes MAX_NUMBER

pair_passes : FieldPasses (both_of small_of small_of) (λ x. uint_spelling x.0 ++ uint_spelling x.1) (λ x. (x.0 ≤ MAX_NUMBER) × (x.1 ≤ MAX_NUMBER))
pair_passes = both_pass small_of small_of uint_spelling uint_spelling _ _ small_passes small_passes

page_passes : FieldPasses page_of uint_spelling (λ n. (n ≤ MAX_NUMBER) × (n % PAGE_BLOCKS ≡ 0))
unfolding page_of
page_passes input fits =
    if_read (number_of MAX_NUMBER input) _ _ _ (number_passes MAX_NUMBER input fits) (λ start s.
    if_test (eqb (start.0 % PAGE_BLOCKS) 0) start _ _ (λ whole. (s.0, (s.1, eqb-true _ _ whole))))

-- it is one of the two numbers that say it
drop_back : (n : ℕ) → n ≤ 1 → drop_number (eqb n 1) ≡ n
drop_back zero small = refl
drop_back (suc zero) small = refl
drop_back (suc (suc n)) small = absurd (omega (arith, small))

drop_passes : FieldPasses drop_of (λ drop. uint_spelling (drop_number drop)) (λ drop. ⊤)
unfolding drop_of
drop_passes input fits =
    if_read (number_of 1 input) _ _ _ (number_passes 1 input fits) (λ n s.
    (subst (λ m. Passed input (uint_spelling m) n.1) (sym (drop_back n.0 s.1)) s.0, tt))

-- ---- the fields of each type

-- the fields of a message of this type stood in front, and are in their ranges
abbrev IsOf : ℕ → Input → Message × Input → Type 0
IsOf kind input x = Passed input (fields_spelling x.0) x.1 × MessageFits x.0 × (type_of x.0 ≡ kind)

abbrev Passes : ℕ → (Input → Read Message) → Type 0
Passes kind read = (input : Input) → IsBytes input.rest → IfOk (read input) (IsOf kind input)

made_passes : {A : Type 0} (kind : ℕ) (message : A → Message) (read : Input → Read A) (spell : A → List ℕ) (Fits : A → Type 0) → FieldPasses read spell Fits
    → ((x : A) → Fits x → (spell x ≡ fields_spelling (message x)) × MessageFits (message x) × (type_of (message x) ≡ kind))
    → Passes kind (λ input. made message (read input))
made_passes kind message read spell Fits pass is input fits =
    if_read (read input) _ _ _ (pass input fits) (λ x p.
    let fact = is x.0 p.1 in
    (subst (λ s. Passed input s x.1) fact.0 p.0, fact.1, fact.2))

open_passes : Passes OPEN_CORE (λ input. made (λ x. open_core x.0 x.1) (both_of (number_of (2 ^ 64 - 1)) (fixed_in 32) input))
open_passes =
    made_passes OPEN_CORE (λ x. open_core x.0 x.1) _ _ _
    (both_pass (number_of (2 ^ 64 - 1)) (fixed_in 32) uint_spelling (λ id. id) _ (λ id. length id ≡ 32) (number_passes (2 ^ 64 - 1)) (fixed_in_passes 32))
    (λ x f. (refl, (omega (arith, f.0), f.1), refl))

pair_made : (kind : ℕ) (message : ℕ → ℕ → Message)
    → ((m n : ℕ) → m ≤ MAX_NUMBER → n ≤ MAX_NUMBER
    → (uint_spelling m ++ uint_spelling n ≡ fields_spelling (message m n)) × MessageFits (message m n) × (type_of (message m n) ≡ kind))
    → Passes kind (λ input. made (λ x. message x.0 x.1) (both_of small_of small_of input))
pair_made kind message is = made_passes kind (λ x. message x.0 x.1) _ _ _ pair_passes (λ x f. is x.0 x.1 f.0 f.1)

id_made : (kind : ℕ) (message : ℕ → Message)
    → ((id : ℕ) → id ≤ MAX_NUMBER → (uint_spelling id ≡ fields_spelling (message id)) × MessageFits (message id) × (type_of (message id) ≡ kind))
    → Passes kind (λ input. made message (small_of input))
id_made kind message is = made_passes kind message small_of _ _ small_passes is

ask_passes : Passes ASK (λ input. made (λ x. ask x.0 x.1) (both_of small_of request_of input))
ask_passes =
    made_passes ASK (λ x. ask x.0 x.1) _ _ _ (both_pass small_of request_of uint_spelling request_spelling _ RequestFits small_passes request_passes)
    (λ x f. (refl, f, refl))

answer_passes : Passes ANSWER (λ input. made (λ x. answer x.0 x.1) (both_of small_of proof_of input))
answer_passes =
    made_passes ANSWER (λ x. answer x.0 x.1) _ _ _ (both_pass small_of proof_of uint_spelling proof_spelling _ ProofFits small_passes proof_passes)
    (λ x f. (refl, f, refl))

bitfield_passes : Passes BITFIELD (λ input. made (λ x. bitfield x.0 x.1) (both_of page_of (buffer_in PAGE_BYTES) input))
bitfield_passes =
    made_passes BITFIELD (λ x. bitfield x.0 x.1) _ _ _
    (both_pass page_of (buffer_in PAGE_BYTES) uint_spelling buffer_spelling _ (λ bits. length bits ≤ PAGE_BYTES) page_passes (buffer_in_passes PAGE_BYTES))
    (λ x f. (refl, (f.0.0, f.0.1, f.1), refl))

range_passes : Passes RANGE (λ input. made (λ x. range x.0 x.1.0 x.1.1) (both_of drop_of (both_of small_of small_of) input))
range_passes =
    made_passes RANGE (λ x. range x.0 x.1.0 x.1.1) _ _ _ (both_pass drop_of (both_of small_of small_of) _ _ _ _ drop_passes pair_passes)
    (λ x f. (refl, f.1, refl))

extension_passes : Passes EXTENSION (λ input. made (λ x. extension x.0 x.1) (both_of small_of (buffer_in (2 ^ 64 - 1)) input))
extension_passes =
    made_passes EXTENSION (λ x. extension x.0 x.1) _ _ _
    (both_pass small_of (buffer_in (2 ^ 64 - 1)) uint_spelling buffer_spelling _ (λ bytes. length bytes ≤ 2 ^ 64 - 1)
    small_passes (buffer_in_passes (2 ^ 64 - 1)))
    (λ x f. (refl, (f.0, omega (arith, f.1)), refl))

-- a type that is equal to this one
as_type : (kind here : ℕ) (read : Read Message) (input : Input) → IfOk read (IsOf here input) → eqb kind here ≡ true → IfOk read (IsOf kind input)
as_type kind here read input p is = subst (λ k. IfOk read (IsOf k input)) (sym (eqb-true kind here is)) p

-- and the one that is left
last_type : (kind : ℕ) → kind ≤ EXTENSION → eqb kind OPEN_CORE ≡ false → eqb kind SYNC ≡ false → eqb kind ASK ≡ false → eqb kind CANCEL ≡ false
    → eqb kind ANSWER ≡ false → eqb kind NO_DATA ≡ false → eqb kind WANT ≡ false → eqb kind UNWANT ≡ false → eqb kind BITFIELD ≡ false → eqb kind RANGE ≡ false
    → eqb kind EXTENSION ≡ true
last_type kind known a b c d e f g h i j =
    eq-eqb kind EXTENSION (omega (
      arith,
      known,
      eqb-false _ _ a,
      eqb-false _ _ b,
      eqb-false _ _ c,
      eqb-false _ _ d,
      eqb-false _ _ e,
      eqb-false _ _ f,
      eqb-false _ _ g,
      eqb-false _ _ h,
      eqb-false _ _ i,
      eqb-false _ _ j,
    ))

fields_pass : (kind : ℕ) → kind ≤ EXTENSION → Passes kind (fields_of kind)
unfolding fields_of
fields_pass kind known input fits =
    if_chosen (eqb kind OPEN_CORE) _ _ _ (as_type kind OPEN_CORE _ input (open_passes input fits)) (λ a.
    if_chosen (eqb kind SYNC) _ _ _ (as_type kind SYNC _ input (pair_made SYNC sync (λ m n p q. (refl, (p, q), refl)) input fits)) (λ b.
    if_chosen (eqb kind ASK) _ _ _ (as_type kind ASK _ input (ask_passes input fits)) (λ c.
    if_chosen (eqb kind CANCEL) _ _ _ (as_type kind CANCEL _ input (id_made CANCEL cancel (λ id p. (refl, p, refl)) input fits)) (λ d.
    if_chosen (eqb kind ANSWER) _ _ _ (as_type kind ANSWER _ input (answer_passes input fits)) (λ e.
    if_chosen (eqb kind NO_DATA) _ _ _ (as_type kind NO_DATA _ input (id_made NO_DATA no_data (λ id p. (refl, p, refl)) input fits)) (λ f.
    if_chosen (eqb kind WANT) _ _ _ (as_type kind WANT _ input (pair_made WANT want (λ m n p q. (refl, (p, q), refl)) input fits)) (λ g.
    if_chosen (eqb kind UNWANT) _ _ _ (as_type kind UNWANT _ input (pair_made UNWANT unwant (λ m n p q. (refl, (p, q), refl)) input fits)) (λ h.
    if_chosen (eqb kind BITFIELD) _ _ _ (as_type kind BITFIELD _ input (bitfield_passes input fits)) (λ i.
    if_chosen (eqb kind RANGE) _ _ _ (as_type kind RANGE _ input (range_passes input fits)) (λ j.
    as_type kind EXTENSION _ input (extension_passes input fits) (last_type kind known a b c d e f g h i j)))))))))))

-- ---- bodies

no_rest : (rest : List ℕ) → length rest ≤ 0 → rest ≡ []
no_rest [] none = refl
no_rest (byte ∷ rest) none = absurd (omega (arith, none))

kind_passes : (body : List ℕ) → IsBytes body → IfOk (kind_of body) (λ x. (body ≡ x.0 ∷ x.1.rest) × (x.0 ≤ EXTENSION) × IsBytes x.1.rest)
unfolding kind_of
kind_passes [] fits = tt
kind_passes (kind ∷ rest) fits =
    if_passed (ltb EXTENSION kind) (Ok (kind, record { place = 1; rest = rest })) _ _ (λ small. (refl, ltb-false _ _ small, λ i. fits (suc i)))

-- a body that is read is spelled so
pub message_passes : (body : List ℕ) → IsBytes body → IfOk (message_of body) (λ m. (body ≡ message_spelling m) × MessageFits m)
unfolding message_of
message_passes body fits =
    if_read (kind_of body) _ _ _ (kind_passes body fits) (λ kind k.
    if_read (fields_of kind.0 kind.1) _ _ _ (fields_pass kind.0 k.1 kind.1 k.2) (λ m f.
    if_passed (ltb 0 (length m.1.rest)) (Ok m.0) _ _ (λ none.
    let text = fields_spelling m.0 in
    let fields : kind.1.rest ≡ text = f.0.parts ∙ ap (λ rest. text ++ rest) (no_rest m.1.rest (ltb-false _ _ none)) ∙ append-nil text in
    (k.0 ∙ ap (λ rest. kind.0 ∷ rest) fields ∙ ap (λ n. n ∷ text) (sym f.2), f.1))))
