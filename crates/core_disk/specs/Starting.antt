-- What a header gives when a core's disk is opened (docs/FORMATS.md, "The change file").
use Rattle.std.specs.Prelude.{◌≡◌, ℕ, ◌+◌, ◌*◌, true, false, List, None, Result, Ok, Err, ⊤}
use Rattle.std.specs.Str.{bytes_eq}
use Rattle.disk_trait.specs.declared.disk.Area.TheVariants.{Oplog}
use Rattle.node_set.specs.declared.fault.CoreFault.{CoreFault}
use Rattle.node_set.specs.declared.fault.CoreFault.TheVariants.{Memory, StoreFault, BadStore, Damaged}
use Rattle.oplog_form.specs.declared.header.Header.{Header}
use Rattle.oplog_file.specs.declared.layout.TheConstants.{FRAME_HEAD_BYTES, SLOT_BYTES}
use Rattle.oplog_file.specs.Slots.{slot_of}
use Rattle.core_disk.specs.declared.layout.TheConstants.{ID_AT}
use Rattle.core_disk.specs.Opened.{Opened}
use Rattle.core_disk.specs.Areas.{Areas, copy_of, started, tree_values}
use Rattle.core_disk.specs.InHand.{InHand, opened_of}

-- the same with the nodes of a tree area
abbrev pub with_tree : List ℕ → Opened → Opened
with_tree tree o = record { head = o.head; roots = o.roots; held = o.held; nodes = tree_values tree }

-- the header is of this core, and gives this, but for the nodes of the tree area, of which none is there yet
pub record IsStart (id : List ℕ) (epoch : ℕ) (header : Header) (copy : List ℕ) (o : Opened) : Type 0 where
  pub own : bytes_eq header.id id ≡ true
  pub gives : (tree : List ℕ) → started epoch copy tree header ≡ Ok (with_tree tree o)
  pub bare : (depth offset : ℕ) → o.nodes depth offset ≡ None

-- what the header gives; or the place of its id, which is another core's; or the copy's hash differs from the header's. A fault of
-- the outside and want of memory tell nothing
abbrev pub Starts : List ℕ → ℕ → Header → Areas → Result InHand CoreFault → Type 0
Starts id epoch header areas (Ok hand) = IsStart id epoch header (areas (copy_of epoch)) (opened_of hand)
Starts id epoch header areas (Err Memory) = ⊤
Starts id epoch header areas (Err StoreFault) = ⊤
Starts id epoch header areas (Err (BadStore place at)) =
    (place ≡ Oplog) × (bytes_eq header.id id ≡ false) × (at ≡ SLOT_BYTES * slot_of epoch + FRAME_HEAD_BYTES + ID_AT)
Starts id epoch header areas (Err (Damaged place want have)) =
    (bytes_eq header.id id ≡ true) × ((tree : List ℕ) → started epoch (areas (copy_of epoch)) tree header ≡ Err (Damaged place want have))
Starts id epoch header areas (Err other) = ⊥
