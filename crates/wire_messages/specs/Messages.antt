-- A message: a type, and the fields of that type (docs/PROTOCOL.md, "Messages").
use Rattle.std.specs.Prelude.{◌≡◌, ℕ, ◌^◌, ◌%◌, ◌<◌, ◌≤◌, Bool, List, ◌∷◌, ◌++◌, length, if◌then◌else◌, ⊤}
use Rattle.compact_enc.specs.Spelling.{uint_spelling, buffer_spelling}
use Rattle.proof_form.specs.declared.fields.TheConstants.{MAX_NUMBER}
use Rattle.proof_form.specs.declared.request.Request.{Request}
use Rattle.proof_form.specs.Requests.{RequestFits, request_spelling}
use Rattle.proof_form.specs.Proofs.{Proof, ProofFits, proof_spelling, view as proof_view}
use Rattle.wire_frames.specs.declared.limits.TheConstants.{MAX_FRAME_BYTES}
use Rattle.wire_messages.specs.declared.message.TheConstants.{OPEN_CORE, SYNC, ASK, CANCEL, ANSWER, NO_DATA, WANT, UNWANT, BITFIELD, RANGE, EXTENSION, PAGE_BLOCKS, PAGE_BYTES}
use Rattle.wire_messages.specs.declared.message.Message.{Message as MessageInMemory}
use Rattle.wire_messages.specs.declared.message.Message.TheVariants.{OpenCore, Sync, Ask, Cancel, Answer, NoData, Want, Unwant, Bitfield, Range, Extension}

-- a message as a value
pub data Message : Type 0 where
  open_core : (version : ℕ) → (id : List ℕ) → Message
  sync : (fork : ℕ) → (length : ℕ) → Message
  ask : (id : ℕ) → Request → Message
  cancel : (id : ℕ) → Message
  answer : (id : ℕ) → Proof → Message
  no_data : (id : ℕ) → Message
  want : (start : ℕ) → (count : ℕ) → Message
  unwant : (start : ℕ) → (count : ℕ) → Message
  bitfield : (start : ℕ) → (bits : List ℕ) → Message
  range : (drop : Bool) → (start : ℕ) → (count : ℕ) → Message
  extension : (number : ℕ) → (bytes : List ℕ) → Message

-- a message in memory as a value
abbrev pub view : MessageInMemory → Message
view (OpenCore version id) = open_core version id
view (Sync fork blocks) = sync fork blocks
view (Ask id request) = ask id request
view (Cancel id) = cancel id
view (Answer id proof) = answer id (proof_view proof)
view (NoData id) = no_data id
view (Want start count) = want start count
view (Unwant start count) = unwant start count
view (Bitfield start bits) = bitfield start bits.now
view (Range drop start count) = range drop start count
view (Extension number bytes) = extension number bytes.now

-- the type of a message
abbrev pub type_of : Message → ℕ
type_of (open_core version id) = OPEN_CORE
type_of (sync fork blocks) = SYNC
type_of (ask id request) = ASK
type_of (cancel id) = CANCEL
type_of (answer id proof) = ANSWER
type_of (no_data id) = NO_DATA
type_of (want start count) = WANT
type_of (unwant start count) = UNWANT
type_of (bitfield start bits) = BITFIELD
type_of (range drop start count) = RANGE
type_of (extension number bytes) = EXTENSION

-- 1 where the blocks are held no longer
abbrev pub drop_number : Bool → ℕ
drop_number drop = if drop then 1 else 0

-- two numbers
abbrev pub pair_spelling : ℕ → ℕ → List ℕ
pair_spelling first second = uint_spelling first ++ uint_spelling second

-- the fields of a message, one behind the other
abbrev pub fields_spelling : Message → List ℕ
fields_spelling (open_core version id) = uint_spelling version ++ id
fields_spelling (sync fork blocks) = pair_spelling fork blocks
fields_spelling (ask id request) = uint_spelling id ++ request_spelling request
fields_spelling (cancel id) = uint_spelling id
fields_spelling (answer id proof) = uint_spelling id ++ proof_spelling proof
fields_spelling (no_data id) = uint_spelling id
fields_spelling (want start count) = pair_spelling start count
fields_spelling (unwant start count) = pair_spelling start count
fields_spelling (bitfield start bits) = uint_spelling start ++ buffer_spelling bits
fields_spelling (range drop start count) = uint_spelling (drop_number drop) ++ pair_spelling start count
fields_spelling (extension number bytes) = uint_spelling number ++ buffer_spelling bytes

-- the body of a message: its type in one byte, and its fields
abbrev pub message_spelling : Message → List ℕ
message_spelling message = type_of message ∷ fields_spelling message

-- what has a spelling: each field in its range
abbrev pub MessageFits : Message → Type 0
MessageFits (open_core version id) = (version < 2 ^ 64) × (length id ≡ 32)
MessageFits (sync fork blocks) = (fork ≤ MAX_NUMBER) × (blocks ≤ MAX_NUMBER)
MessageFits (ask id request) = (id ≤ MAX_NUMBER) × RequestFits request
MessageFits (cancel id) = id ≤ MAX_NUMBER
MessageFits (answer id proof) = (id ≤ MAX_NUMBER) × ProofFits proof
MessageFits (no_data id) = id ≤ MAX_NUMBER
MessageFits (want start count) = (start ≤ MAX_NUMBER) × (count ≤ MAX_NUMBER)
MessageFits (unwant start count) = (start ≤ MAX_NUMBER) × (count ≤ MAX_NUMBER)
MessageFits (bitfield start bits) = (start ≤ MAX_NUMBER) × (start % PAGE_BLOCKS ≡ 0) × (length bits ≤ PAGE_BYTES)
MessageFits (range drop start count) = (start ≤ MAX_NUMBER) × (count ≤ MAX_NUMBER)
MessageFits (extension number bytes) = (number ≤ MAX_NUMBER) × (length bytes < 2 ^ 64)

-- the bytes of an extension find room in a frame, as every other message does
abbrev pub FindsRoom : Message → Type 0
FindsRoom (extension number bytes) = length (message_spelling (extension number bytes)) ≤ MAX_FRAME_BYTES
FindsRoom message = ⊤
