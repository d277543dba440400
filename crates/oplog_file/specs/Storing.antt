-- The calls that write a change file, as calls of the disk.
use Rattle.std.specs.Prelude.{◌≡◌, ℕ, ◌+◌, ◌≤◌, ◌==◌, ◌&&◌, nat_lt, List, [], length, take, Result, IsErrOf, OnOk, if◌then◌else◌}
use Rattle.outside_traits.specs.Faults.{Rose}
use Rattle.disk_trait.specs.declared.disk.Area.TheVariants.{Oplog}
use Rattle.disk_trait.specs.Disk.{DiskView, Elapses, Torn, Cut, Touches, IsSynced, overlay}
use Rattle.node_set.specs.declared.fault.CoreFault.{CoreFault}
use Rattle.node_set.specs.declared.fault.CoreFault.TheVariants.{StoreFault}
use Rattle.oplog_file.specs.declared.layout.TheConstants.{SLOT_BYTES, ENTRIES_AT}
use Rattle.oplog_file.specs.Frames.{Frame}
use Rattle.oplog_file.specs.Slots.{slot_of}
use Rattle.oplog_file.specs.Writers.{Place, OthersRest, IsHalfMade}

-- at most so many calls of the disk: they keep it honest and tell whether it was, and fail as a store only where the count of
-- faults rose
pub record Calls {T : Type 0} (most : ℕ) (old new : DiskView) (answer : Result T CoreFault) : Type 0 where
  pub honest : new.honest ≡ old.honest
  pub few : new.calls ≤ old.calls + most
  pub kept : old.faults ≤ new.faults
  pub rose : IsErrOf answer StoreFault → Rose old.faults new.faults

-- bytes are written at a place of the area, and after Ok they are synced
pub record Stores {T E : Type 0} (at : ℕ) (bytes : List ℕ) (old new : DiskView) (answer : Result T E) : Type 0 where
  pub touches : Touches (Torn at (length bytes)) Oplog old new
  pub whole : OnOk answer (new.reads Oplog ≡ overlay at bytes (old.reads Oplog))
  pub synced : OnOk answer (IsSynced Oplog new)

-- the area is cut where it is longer than this, and after Ok that is synced
pub record Shortens {T E : Type 0} (to : ℕ) (old new : DiskView) (answer : Result T E) : Type 0 where
  pub touches : Touches (Cut to) Oplog old new
  pub whole : OnOk answer (new.reads Oplog ≡ take to (old.reads Oplog))
  pub synced : OnOk answer (IsSynced Oplog new)

-- the area is emptied, and once that is synced it is given these bytes; after Ok they are synced
pub record Remakes {T E : Type 0} (bytes : List ℕ) (old new : DiskView) (answer : Result T E) : Type 0 where
  pub time : Elapses old new
  pub others : OthersRest old new
  pub halves : (t : ℕ) (c : List ℕ) → old.moment ≤ t → t ≤ new.moment → new.image t Oplog c → IsHalfMade bytes old c
  pub whole : OnOk answer (new.reads Oplog ≡ overlay 0 bytes [])
  pub synced : OnOk answer (IsSynced Oplog new)

-- How many bytes are kept of an area of this size: those up to the end of the entries; and where it ends within the slots and the
-- first one's header counts, the first slot.
abbrev pub trimmed_to : ℕ → ℕ → ℕ → ℕ
trimmed_to epoch used size = if slot_of epoch == 0 && nat_lt size ENTRIES_AT then SLOT_BYTES else ENTRIES_AT + used

-- the frame of the entry that is written behind a place
abbrev pub entry_frame : Place → List ℕ → Frame
entry_frame place payload = record { epoch = place.epoch; number = place.count + 1; payload = payload }

-- the area is cut to what is kept of it
abbrev pub Trims : {T E : Type 0} → ℕ → ℕ → DiskView → DiskView → Result T E → Type 0
Trims epoch used old new answer = Shortens (trimmed_to epoch used (length (old.reads Oplog))) old new answer
