-- Messages: what is spelled so is read.
use Rattle.std.proofs.Common.{◌≡◌, ℕ, ◌^◌, ◌-◌, ◌%◌, ◌≤◌, Bool, true, false, cond, eqb, ltb, List, [], ◌++◌, Result, Ok, Err, refl, sym, ap, ◌∙◌, append-nil, arith}
use Rattle.std.proofs.lemmas.Bool.{eq-eqb}
use Rattle.compact_enc.specs.Spelling.{uint_spelling}
use Rattle.compact_enc.specs.Reading.{◌>>=◌, Gives}
use Rattle.compact_enc.specs.Input.{Input, Yields}
use Rattle.compact_enc.proofs.Inputs.{ReadsBack, again_then, again_last, again_tested}
use Rattle.proof_form.specs.declared.fields.TheConstants.{MAX_NUMBER}
use Rattle.proof_form.specs.declared.form.BadForm.{BadForm}
use Rattle.proof_form.specs.declared.form.Bad.TheVariants.{Unknown, Page}
use Rattle.proof_form.specs.Form.{Read, number_of, fixed_in, buffer_in}
use Rattle.proof_form.specs.Requests.{request_of}
use Rattle.proof_form.specs.Proofs.{proof_of}
use Rattle.proof_form.proofs.FieldLaws.{number_again, fixed_in_again, buffer_in_again}
use Rattle.proof_form.proofs.RequestLaws.{request_again}
use Rattle.proof_form.proofs.ProofLaws.{proof_again}
use Rattle.wire_messages.specs.declared.message.TheConstants.{EXTENSION, PAGE_BLOCKS, PAGE_BYTES}
use Rattle.wire_messages.specs.Messages.{Message, open_core, sync, ask, cancel, answer, no_data, want, unwant, bitfield, range, extension, type_of, drop_number, fields_spelling, message_spelling, MessageFits}
use Rattle.wire_messages.specs.Reading.{both_of, small_of, page_of, drop_of, kind_of, fields_of, alone, message_of}

-- ---- fields

both_again : {A B : Type 0} (one : Input → Read A) (other : Input → Read B) (a : A) (b : B) (s t : List ℕ)
    → ReadsBack one a s → ReadsBack other b t → ReadsBack (both_of one other) (a, b) (s ++ t)
unfolding both_of
both_again one other a b s t first second = again_then one _ a (a, b) s t first (again_last other (λ y. (a, y)) b t second)

small_again : (n : ℕ) → n ≤ MAX_NUMBER → ReadsBack small_of n (uint_spelling n)
small_again n small = number_again MAX_NUMBER n small (omega (arith, small))

pair_again : (m n : ℕ) → m ≤ MAX_NUMBER → n ≤ MAX_NUMBER → ReadsBack (both_of small_of small_of) (m, n) (uint_spelling m ++ uint_spelling n)
pair_again m n p q = both_again small_of small_of m n (uint_spelling m) (uint_spelling n) (small_again m p) (small_again n q)

page_again : (n : ℕ) → n ≤ MAX_NUMBER → n % PAGE_BLOCKS ≡ 0 → ReadsBack page_of n (uint_spelling n)
unfolding page_of
page_again n small whole =
    again_tested (number_of MAX_NUMBER) (λ start. eqb (start % PAGE_BLOCKS) 0) (λ start. start)
    (λ input. record { at = input.place; why = Page }) n (uint_spelling n)
    (small_again n small) (eq-eqb _ _ whole)

drop_again : (drop : Bool) → ReadsBack drop_of drop (uint_spelling (drop_number drop))
unfolding drop_of
drop_again true = again_last (number_of 1) (λ n. eqb n 1) 1 (uint_spelling 1) (number_again 1 1 (omega arith) (omega arith))
drop_again false = again_last (number_of 1) (λ n. eqb n 1) 0 (uint_spelling 0) (number_again 1 0 (omega arith) (omega arith))

fields_again : (m : Message) → MessageFits m → ReadsBack (fields_of (type_of m)) m (fields_spelling m)
unfolding fields_of
fields_again (open_core version id) f =
    again_last _ (λ x. open_core x.0 x.1) (version, id) _
    (both_again (number_of (2 ^ 64 - 1)) (fixed_in 32) version id _ _ (number_again (2 ^ 64 - 1) version (omega (arith, f.0)) f.0) (fixed_in_again 32 id f.1))
fields_again (sync fork blocks) f = again_last _ (λ x. sync x.0 x.1) (fork, blocks) _ (pair_again fork blocks f.0 f.1)
fields_again (ask id request) f =
    again_last _ (λ x. ask x.0 x.1) (id, request) _ (both_again small_of request_of id request _ _ (small_again id f.0) (request_again request f.1))
fields_again (cancel id) f = again_last small_of cancel id _ (small_again id f)
fields_again (answer id proof) f =
    again_last _ (λ x. answer x.0 x.1) (id, proof) _ (both_again small_of proof_of id proof _ _ (small_again id f.0) (proof_again proof f.1))
fields_again (no_data id) f = again_last small_of no_data id _ (small_again id f)
fields_again (want start count) f = again_last _ (λ x. want x.0 x.1) (start, count) _ (pair_again start count f.0 f.1)
fields_again (unwant start count) f = again_last _ (λ x. unwant x.0 x.1) (start, count) _ (pair_again start count f.0 f.1)
fields_again (bitfield start bits) f =
    again_last _ (λ x. bitfield x.0 x.1) (start, bits) _
    (both_again page_of (buffer_in PAGE_BYTES) start bits _ _ (page_again start f.0 f.1) (buffer_in_again PAGE_BYTES bits f.2 (omega (arith, f.2))))
fields_again (range drop start count) f =
    again_last _ (λ x. range x.0 x.1.0 x.1.1) (drop, (start, count)) _
    (both_again drop_of (both_of small_of small_of) drop (start, count) _ _ (drop_again drop) (pair_again start count f.0 f.1))
fields_again (extension number bytes) f =
    again_last _ (λ x. extension x.0 x.1) (number, bytes) _
    (both_again small_of (buffer_in (2 ^ 64 - 1)) number bytes _ _ (small_again number f.0) (buffer_in_again (2 ^ 64 - 1) bytes (omega (arith, f.1)) f.1))

-- ---- bodies

known_type : (m : Message) → ltb EXTENSION (type_of m) ≡ false
known_type (open_core version id) = refl
known_type (sync fork blocks) = refl
known_type (ask id request) = refl
known_type (cancel id) = refl
known_type (answer id proof) = refl
known_type (no_data id) = refl
known_type (want start count) = refl
known_type (unwant start count) = refl
known_type (bitfield start bits) = refl
known_type (range drop start count) = refl
known_type (extension number bytes) = refl

-- what is behind the type
abbrev fields : Message → Input
fields m = record { place = 1; rest = fields_spelling m }

type_again : (m : Message) → kind_of (message_spelling m) ≡ Ok (type_of m, fields m)
unfolding kind_of
type_again m = ap (λ b. cond b (Err (record { at = 0; why = Unknown })) (Ok (type_of m, fields m))) (known_type m)

-- what is spelled so is read
pub message_again : (m : Message) → MessageFits m → message_of (message_spelling m) ≡ Ok m
unfolding message_of
message_again m fits =
    ap (λ r. r >>= λ kind. fields_of kind.0 kind.1 >>= λ x. alone x.0 x.1) (type_again m)
    ∙ ap (λ r. r >>= λ x. alone x.0 x.1) (fields_again m fits (fields m) [] (sym (append-nil (fields_spelling m))))

-- ---- what follows

abbrev message_or : Message → Result Message BadForm → Message
message_or other (Ok message) = message
message_or other (Err bad) = other

abbrev bad_body : BadForm → Result Message BadForm
bad_body bad = Err bad

-- two messages of one spelling are one
pub one_message : (a b : Message) → MessageFits a → MessageFits b → message_spelling a ≡ message_spelling b → a ≡ b
one_message a b p q same = ap (message_or a) (sym (message_again a p) ∙ ap message_of same ∙ message_again b q)

-- a call that gives what reading gives yields the message that is read
pub yields_read : {X : Type 0} (view : X → Message) (r : Result X BadForm) (read : Result Message BadForm) (m : Message)
    → Gives view r read → read ≡ Ok m → Yields view r m
yields_read view (Ok x) read m gives is = ap (message_or m) (sym gives ∙ is)
yields_read view (Err bad) read m gives is =
    let e : bad_body bad ≡ Ok m = sym gives ∙ is in
    cc
