-- A disk with other counts shows the same areas, images and clock.
use Rattle.std.proofs.Common.{ℕ}
use Rattle.disk_trait.specs.Disk.{DiskView, Keeps, IsOnePast}

-- a disk with these counts in place of its own
abbrev pub disk_with_counts : DiskView → ℕ → ℕ → DiskView
disk_with_counts disk calls faults = record disk { calls = calls; faults = faults }

module _ (old new : DiskView) (calls calls' faults faults' : ℕ) where
  pub counted_keeps : Keeps old new → Keeps (disk_with_counts old calls faults) (disk_with_counts new calls' faults')
  counted_keeps k = record {
    time = record { later = k.time.later; past = k.time.past };
    each = λ area. record { reads = (k.each area).reads; images = (k.each area).images };
  }

  -- where no step was made since, the disk was not touched since
  pub counted_rests : (IsOnePast old new → Keeps old new) → IsOnePast (disk_with_counts old calls faults) (disk_with_counts new calls' faults')
      → Keeps (disk_with_counts old calls faults) (disk_with_counts new calls' faults')
  counted_rests rests one = counted_keeps (rests (record { past = one.past; later = one.later }))
