-- Reading a change file: what its calls tell, and which frames a place has passed (docs/FORMATS.md, "The change file").
use Rattle.std.specs.Prelude.{◌≡◌, ℕ, ◌+◌, ◌-◌, ◌<◌, ◌≤◌, Bool, true, false, IsTrue, List, ◌++◌, length, take, drop, Option, None, Some, Result, Ok, Err, IsErrOf}
use Rattle.std.specs.Int.{w32, from_le_bytes}
use Rattle.outside_traits.specs.Faults.{Rose}
use Rattle.disk_trait.specs.Disk.{DiskView, Keeps}
use Rattle.disk_trait.specs.declared.disk.Area.TheVariants.{Oplog}
use Rattle.node_set.specs.declared.fault.CoreFault.{CoreFault}
use Rattle.node_set.specs.declared.fault.CoreFault.TheVariants.{BadStore, StoreFault}
use Rattle.oplog_form.specs.declared.entry.Entry.{Entry}
use Rattle.oplog_form.specs.Entries.{entry_of}
use Rattle.oplog_file.specs.declared.layout.TheConstants.{FRAME_HEAD_BYTES, ENTRIES_AT}
use Rattle.oplog_file.specs.Frames.{Frame}
use Rattle.oplog_file.specs.Fronts.{payload_in}
use Rattle.oplog_file.specs.Slots.{in_area}
use Rattle.oplog_file.specs.Counting.{entries_part, entry_in_front, Count, entry_frames, bytes_of}
use Rattle.oplog_file.specs.Writers.{Place, frame_behind, Passes, Stands}

-- calls that only read: they keep a disk honest and tell whether it was, fail as a store only where the count of faults
-- rose, and touch no area of an honest disk
pub record Consults {T : Type 0} (old new : DiskView) (answer : Result T CoreFault) : Type 0 where
  pub honest : new.honest ≡ old.honest
  pub kept : old.faults ≤ new.faults
  pub rose : IsErrOf answer StoreFault → Rose old.faults new.faults
  pub keeps : IsTrue old.honest → Keeps old new

-- whether the area had bytes for all of a room from this place on, which then has them
abbrev pub Fills : ℕ → List ℕ → List ℕ → Bool → Type 0
Fills at area room true = (length room ≤ length area - at) × (room ≡ take (length room) (drop at area))
Fills at area room false = length area - at < length room

-- the entry's frame with its payload in this room
abbrev pub entry_told : ℕ → ℕ → List ℕ → ℕ → Frame
entry_told epoch number room count = record { epoch = epoch; number = number; payload = payload_in count room }

-- Once the head behind so many bytes of entries was read to the front of a room: no entry counts there, or how many bytes of
-- payload are told of.
abbrev pub HeadTold : ℕ → List ℕ → List ℕ → Option ℕ → Type 0
HeadTold used area room None = (epoch number : ℕ) → entry_in_front epoch number (drop used (entries_part area)) ≡ None
HeadTold used area room (Some count) =
    (count ≡ from_le_bytes w32 (take 4 (drop (ENTRIES_AT + used) area)))
    × (take FRAME_HEAD_BYTES room ≡ take FRAME_HEAD_BYTES (drop (ENTRIES_AT + used) area))

-- a frame counts next, and was passed
pub record PassesNext (area : List ℕ) (old new : Place) : Type 0 where
  pub next : Frame
  pub counts : frame_behind old area ≡ Some next
  pub passes : Passes next old new

-- none counts next
pub record StandsLast (area : List ℕ) (old new : Place) : Type 0 where
  pub none : frame_behind old area ≡ None
  pub stands : Stands old new

-- whether there was a frame that counts next, which then was passed
abbrev pub MovesOn : List ℕ → Place → Place → Bool → Type 0
MovesOn area old new true = PassesNext area old new
MovesOn area old new false = StandsLast area old new

-- the entry that was passed last, or its first bad place in the area
abbrev pub entry_passed : Place → Result Entry ℕ
entry_passed place = in_area (ENTRIES_AT + place.last) (entry_of place.payload)

-- the answer is what was read of the change file, or tells the place that is bad
abbrev pub Tells : {A : Type 0} → Result A CoreFault → Result A ℕ → Type 0
Tells (Ok x) read = read ≡ Ok x
Tells (Err (BadStore area at)) read = (area ≡ Oplog) × (read ≡ Err at)
Tells (Err other) read = ⊥

-- these frames were passed from the first on: whatever counts behind the place, the entries' frames are they and that
pub record HasPassed (area : List ℕ) (place : Place) (passed : List Frame) : Type 0 where
  pub passed_count : place.count ≡ length passed
  pub passed_bytes : place.used ≡ bytes_of passed
  pub rest : (frames : List Frame) → Count place.epoch (place.count + 1) (drop place.used (entries_part area)) frames
      → entry_frames place.epoch area ≡ passed ++ frames
