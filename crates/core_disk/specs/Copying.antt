-- Reading a copy of the held blocks (docs/FORMATS.md, "The change file").
use Rattle.std.specs.Prelude.{◌≡◌, ℕ, ◌-◌, ◌/◌, ◌%◌, ◌*◌, ◌≤◌, min, Bool, true, false, if◌then◌else◌, List, get_or, Result, Ok, Err, ⊤}
use Rattle.std.specs.Str.{bytes_eq}
use Rattle.bit_field.specs.Places.{has, is_in}
use Rattle.bit_field.specs.Pages.{is_set}
use Rattle.bit_field.specs.declared.page.TheConstants.{PAGE_BYTES, PAGE_PLACES}
use Rattle.disk_trait.specs.declared.disk.Area.{Area}
use Rattle.disk_trait.specs.Disk.{DiskView}
use Rattle.node_set.specs.declared.fault.CoreFault.{CoreFault}
use Rattle.node_set.specs.declared.fault.CoreFault.TheVariants.{Memory, StoreFault, Damaged}
use Rattle.node_set.specs.declared.fault.Place.TheVariants.{BitsCopy}
use Rattle.oplog_file.specs.Passing.{Consults}
use Rattle.core_disk.specs.Areas.{Areas, held_in, copy_of, copy_hash}

-- whether bytes have the bit of a place; past their end they are zeros
abbrev pub place_in : List ℕ → ℕ → Bool
place_in bytes place = is_set (get_or bytes (place / 8) 0) (place % 8)

-- the places from..to are as these bytes tell from their first place on, and every other place keeps its own
abbrev pub SetsPlaces : List ℕ → ℕ → ℕ → (ℕ → Bool) → (ℕ → Bool) → Type 0
SetsPlaces bytes from to old new = (place : ℕ) → new place ≡ (if is_in from to place then place_in bytes (place - from) else old place)

-- the places below a bound are held as the area tells, and no others
abbrev pub CopiedTo : List ℕ → ℕ → (ℕ → Bool) → Type 0
CopiedTo area to held = (place : ℕ) → held place ≡ held_in area to place

-- no place from a bound on is held
abbrev pub IsSpareFrom : ℕ → (ℕ → Bool) → Type 0
IsSpareFrom to held = (place : ℕ) → to ≤ place → held place ≡ false

-- how many places the first pages have of so many
abbrev pub places_below : ℕ → ℕ → ℕ
places_below blocks pages = min blocks (pages * PAGE_PLACES)

-- how many bytes the first pages have of so many
abbrev pub bytes_below : ℕ → ℕ → ℕ
bytes_below bytes pages = min bytes (pages * PAGE_BYTES)

-- the set itself, where this is the hash of its copy for so many blocks; and else both hashes
abbrev pub ChecksCopy : Area → List ℕ → List Bool → ℕ → Result (List Bool) CoreFault → Type 0
ChecksCopy area bits held n (Ok same) = (same ≡ held) × (bytes_eq bits (copy_hash (has held) n) ≡ true)
ChecksCopy area bits held n (Err (Damaged place want have)) =
    (place ≡ BitsCopy area) × (want ≡ bits) × (have ≡ copy_hash (has held) n) × (bytes_eq bits have ≡ false)
ChecksCopy area bits held n (Err other) = ⊥

-- the held blocks are those of the copy of an epoch, of which a header has the hash; or the hash differs, and both are told. A
-- fault of the outside and want of memory tell nothing
abbrev pub TellsCopy : ℕ → List ℕ → Areas → ℕ → Result (List Bool) CoreFault → Type 0
TellsCopy epoch bits areas n (Ok held) =
    CopiedTo (areas (copy_of epoch)) n (has held) × (bytes_eq bits (copy_hash (held_in (areas (copy_of epoch)) n) n) ≡ true)
TellsCopy epoch bits areas n (Err Memory) = ⊤
TellsCopy epoch bits areas n (Err StoreFault) = ⊤
TellsCopy epoch bits areas n (Err (Damaged place want have)) =
    (place ≡ BitsCopy (copy_of epoch)) × (want ≡ bits)
    × (have ≡ copy_hash (held_in (areas (copy_of epoch)) n) n) × (bytes_eq bits have ≡ false)
TellsCopy epoch bits areas n (Err other) = ⊥

-- the calls so far only read
abbrev pub HasConsulted : DiskView → DiskView → Type 0
HasConsulted old new = Consults {T = Unit {0}} old new (Ok tt)
