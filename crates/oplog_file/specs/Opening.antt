-- Opening a change file: which header counts, by what was read (docs/FORMATS.md, "The change file").
use Rattle.std.specs.Prelude.{◌≡◌, ℕ, ◌+◌, ◌*◌, List, take, drop, Some, Result, Ok, Err, ⊤}
use Rattle.disk_trait.specs.declared.disk.Area.TheVariants.{Oplog}
use Rattle.node_set.specs.declared.fault.CoreFault.{CoreFault}
use Rattle.node_set.specs.declared.fault.CoreFault.TheVariants.{Memory, StoreFault, BadStore}
use Rattle.oplog_form.specs.declared.header.Header.{Header}
use Rattle.oplog_file.specs.declared.frame.Front.{Front}
use Rattle.oplog_file.specs.declared.layout.TheConstants.{FRAME_HEAD_BYTES, SLOT_BYTES}
use Rattle.oplog_file.specs.Frames.{Frame}
use Rattle.oplog_file.specs.Slots.{slot_of, header_frame, header_at}
use Rattle.oplog_file.specs.Writers.{Place, IsInFront}

-- where the payload of an epoch's header begins
abbrev pub header_payload_at : ℕ → ℕ
header_payload_at epoch = SLOT_BYTES * slot_of epoch + FRAME_HEAD_BYTES

-- the header's frame that this is told of, in its epoch's slot
abbrev pub header_told : List ℕ → Front → Frame
header_told area front = record {
  epoch = front.epoch;
  number = front.number;
  payload = take front.payload_len (drop (header_payload_at front.epoch) area);
}

-- this header counts, under this epoch
pub record Counts (area : List ℕ) (epoch : ℕ) (header : Header) : Type 0 where
  pub frame : Frame
  pub found : header_frame area ≡ Some frame
  pub epoch_is : epoch ≡ frame.epoch
  pub header_is : header_at area ≡ Ok header

-- which header counts, or which place is bad; a fault of the outside tells nothing
abbrev pub TellsHeader : List ℕ → Result (ℕ × Header) CoreFault → Type 0
TellsHeader area (Ok found) = Counts area found.0 found.1
TellsHeader area (Err Memory) = ⊤
TellsHeader area (Err StoreFault) = ⊤
TellsHeader area (Err (BadStore place at)) = (place ≡ Oplog) × (header_at area ≡ Err at)
TellsHeader area (Err other) = ⊥

-- the file stands in front of the first entry behind the header that counts; or which place is bad
abbrev pub Opens : List ℕ → Result (Place × Header) CoreFault → Type 0
Opens area (Ok opened) = Counts area opened.0.epoch opened.1 × IsInFront opened.0 opened.0.epoch
Opens area (Err fault) = TellsHeader area (Err fault)
