-- Reading the body of a frame as a message, or its first bad place and why.
use Rattle.std.specs.Prelude.{ℕ, ◌^◌, ◌-◌, ◌%◌, ◌==◌, Bool, List, [], ◌∷◌, length, Result, Ok, Err, nat_lt, if◌then◌else◌}
use Rattle.compact_enc.specs.Reading.{◌>>=◌}
use Rattle.compact_enc.specs.Input.{Input}
use Rattle.proof_form.specs.declared.fields.TheConstants.{MAX_NUMBER}
use Rattle.proof_form.specs.declared.form.BadForm.{BadForm}
use Rattle.proof_form.specs.declared.form.Bad.TheVariants.{Short, Unknown, Page, Trailing}
use Rattle.proof_form.specs.Form.{Read, number_of, fixed_in, buffer_in}
use Rattle.proof_form.specs.Requests.{request_of}
use Rattle.proof_form.specs.Proofs.{proof_of}
use Rattle.wire_messages.specs.declared.message.TheConstants.{OPEN_CORE, SYNC, ASK, CANCEL, ANSWER, NO_DATA, WANT, UNWANT, BITFIELD, RANGE, EXTENSION, PAGE_BLOCKS, PAGE_BYTES}
use Rattle.wire_messages.specs.Messages.{Message, open_core, sync, ask, cancel, answer, no_data, want, unwant, bitfield, range, extension}

-- two fields, one behind the other
unfoldable pub both_of : {A B : Type 0} → (Input → Read A) → (Input → Read B) → Input → Read (A × B)
both_of one other input = do
  first ← one input
  second ← other first.1
  Ok ((first.0, second.0), second.1)

-- a number of the range that most numbers have
abbrev pub small_of : Input → Read ℕ
small_of input = number_of MAX_NUMBER input

-- a page's first block
unfoldable pub page_of : Input → Read ℕ
page_of input = do
  start ← number_of MAX_NUMBER input
  if start.0 % PAGE_BLOCKS == 0 then Ok start else Err (record { at = input.place; why = Page })

-- whether blocks are held no longer: 1 or 0
unfoldable pub drop_of : Input → Read Bool
drop_of input = do
  drop ← number_of 1 input
  Ok (drop.0 == 1, drop.1)

-- a message with what was read
abbrev pub made : {A : Type 0} → (A → Message) → Read A → Read Message
made message read = read >>= λ x. Ok (message x.0, x.1)

-- the type, which is the first byte
unfoldable pub kind_of : List ℕ → Read ℕ
kind_of [] = Err (record { at = 0; why = Short })
kind_of (kind ∷ rest) = if nat_lt EXTENSION kind then Err (record { at = 0; why = Unknown }) else Ok (kind, record { place = 1; rest = rest })

-- the fields of each type
unfoldable pub fields_of : ℕ → Input → Read Message
fields_of kind input =
    if kind == OPEN_CORE then made (λ x. open_core x.0 x.1) (both_of (number_of (2 ^ 64 - 1)) (fixed_in 32) input)
    else if kind == SYNC then made (λ x. sync x.0 x.1) (both_of small_of small_of input)
    else if kind == ASK then made (λ x. ask x.0 x.1) (both_of small_of request_of input)
    else if kind == CANCEL then made cancel (small_of input)
    else if kind == ANSWER then made (λ x. answer x.0 x.1) (both_of small_of proof_of input)
    else if kind == NO_DATA then made no_data (small_of input)
    else if kind == WANT then made (λ x. want x.0 x.1) (both_of small_of small_of input)
    else if kind == UNWANT then made (λ x. unwant x.0 x.1) (both_of small_of small_of input)
    else if kind == BITFIELD then made (λ x. bitfield x.0 x.1) (both_of page_of (buffer_in PAGE_BYTES) input)
    else if kind == RANGE then made (λ x. range x.0 x.1.0 x.1.1) (both_of drop_of (both_of small_of small_of) input)
    else made (λ x. extension x.0 x.1) (both_of small_of (buffer_in (2 ^ 64 - 1)) input)

-- a message that nothing follows
abbrev pub alone : Message → Input → Result Message BadForm
alone message input = if nat_lt 0 (length input.rest) then Err (record { at = input.place; why = Trailing }) else Ok message

-- the message of a whole body
unfoldable pub message_of : List ℕ → Result Message BadForm
message_of body = do
  kind ← kind_of body
  message ← fields_of kind.0 kind.1
  alone message.0 message.1
