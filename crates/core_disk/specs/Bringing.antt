-- The bytes that a change brings go to the blocks area.
use Rattle.std.specs.Prelude.{◌≡◌, ℕ, ◌+◌, ◌<◌, List, Option, Some, None, Result, OnOk}
use Rattle.disk_trait.specs.declared.disk.Area.TheVariants.{Blocks as BlocksArea}
use Rattle.disk_trait.specs.Disk.{DiskView, Touches}
use Rattle.oplog_file.specs.declared.layout.TheConstants.{FRAME_HEAD_BYTES, MAX_ENTRIES_BYTES}
use Rattle.core_disk.specs.declared.writing.BlocksPart.{BlocksPart}
use Rattle.core_disk.specs.Plans.{Part, laid, TornBy}

-- what is brought, if something is
abbrev pub part_of : Option BlocksPart → Option Part
part_of None = None
part_of (Some part) = Some (record { at = part.at; bytes = part.bytes.now })

-- whatever a crash now leaves of the blocks area is what one could leave before, with the bytes that came in
abbrev pub LeavesLaid : Option Part → DiskView → DiskView → Type 0
LeavesLaid part old new = (c : List ℕ) → new.image new.moment BlocksArea c → (base : List ℕ) × old.image old.moment BlocksArea base × (c ≡ laid part base)

-- Bytes are written to the blocks area, if some come in, and after Ok they are synced.
pub record Brings {T E : Type 0} (part : Option Part) (old new : DiskView) (answer : Result T E) : Type 0 where
  pub touches : Touches (TornBy part) BlocksArea old new
  pub whole : OnOk answer (new.reads BlocksArea ≡ laid part (old.reads BlocksArea))
  pub images : OnOk answer (LeavesLaid part old new)

-- a payload of so many bytes finds no room behind so many bytes of entries
abbrev pub FindsNoRoom : ℕ → ℕ → Type 0
FindsNoRoom used bytes = MAX_ENTRIES_BYTES < used + FRAME_HEAD_BYTES + bytes
