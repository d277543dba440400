-- What a core has of its disk: the disk and what is in memory of it, as a content and as a view of that.
use Rattle.std.specs.Prelude.{ℕ, Bool, List, [], Option, Some, None, ◌&&◌, if◌then◌else◌}
use Rattle.disk_trait.specs.Disk.{DiskView}
use Rattle.disk_trait.specs.declared.disk.Area.TheVariants.{Blocks as BlocksArea}
use Rattle.node_set.specs.declared.fault.CoreFault.{CoreFault}
use Rattle.node_set.specs.Contents.{Content}
use Rattle.node_set.specs.Views.{ViewState}
use Rattle.core_disk.specs.InHand.{InHand, opened_of}
use Rattle.core_disk.specs.Laid.{content_in}
use Rattle.core_disk.specs.Fitting.{sizes_fit, tells_of}
use Rattle.core_disk.specs.Testing.{is_kept, has_blocks}

-- a disk and what is in memory of it; how many calls of the view answered a fault, and the last one
pub record Stored (D : Type 0) : Type 0 where
  pub disk : D
  pub hand : InHand
  pub answered : ℕ
  pub last : Option CoreFault

-- what the blocks area reads as; of a disk that isn't honest nothing is known
abbrev pub blocks_area : DiskView → List ℕ
blocks_area disk = if disk.honest then disk.reads BlocksArea else []

-- the content that a disk and what is in memory of it show
abbrev pub content_of : DiskView → InHand → Content
content_of disk hand = content_in (blocks_area disk) (opened_of hand)

-- they stand for it: the disk answers as it tells, nodes and blocks agree, and each held block is there
abbrev pub is_standing : DiskView → InHand → Bool
is_standing disk hand = disk.honest && (is_kept (content_of disk hand) && has_blocks (blocks_area disk) (content_of disk hand))

-- they show it, agreeing or not: the disk answers as it tells, and no node is so large that the blocks' places aren't known
abbrev pub is_showing : DiskView → InHand → Bool
is_showing disk hand = disk.honest && sizes_fit (content_of disk hand)

-- as a view
abbrev pub stored_view : DiskView → InHand → ℕ → Option CoreFault → ViewState
stored_view disk hand answered last = record {
  content = content_of disk hand;
  stands = is_standing disk hand;
  shows = is_showing disk hand;
  past = if disk.honest then Some disk.past else None;
  moment = if disk.honest then disk.moment else 0;
  faults = disk.faults;
  tells = tells_of (content_of disk hand);
  answered = answered;
  last = last;
}

-- a disk with what is in memory of it, as a view
abbrev pub view_of : {D : Type 0} → (D → DiskView) → Stored D → ViewState
view_of disk store = stored_view (disk store.disk) store.hand store.answered store.last

-- the same with a count of faults of its own, over which a change is planned
abbrev pub planned_view : DiskView → InHand → ℕ → Option CoreFault → ℕ → ViewState
planned_view disk hand answered last faults = record (stored_view disk hand answered last) { faults = faults }
