-- What is seen of a disk that fails from some call on, and what its calls do.
use Rattle.std.specs.Prelude.{◌≡◌, ℕ, ◌+◌, ◌-◌, ◌^◌, ◌<◌, min, Result, IsErr}
use Rattle.disk_trait.specs.declared.fuse.FuseDisk.{FuseDisk}
use Rattle.disk_trait.specs.Disk.{DiskView, Counts}

-- the disk that it passes calls on to, how many more it passes, how many were made, and how many it refused
abbrev pub inner_of : {D : Type 0} → FuseDisk D → D
inner_of fuse = fuse.inner

-- how many calls still pass
abbrev pub left_of : {D : Type 0} → FuseDisk D → ℕ
left_of fuse = fuse.left

-- how many calls were made
abbrev pub made_of : {D : Type 0} → FuseDisk D → ℕ
made_of fuse = fuse.made

-- how many calls the fuse refused
abbrev pub refused_of : {D : Type 0} → FuseDisk D → ℕ
refused_of fuse = fuse.refused

-- the inner disk as it is, with the fuse's own count of calls, and its refusals among the faults
abbrev pub fused : DiskView → ℕ → ℕ → DiskView
fused inner made refused = record inner { calls = made; faults = min (inner.faults + refused) (2 ^ 64 - 1) }

-- what is seen of the disk behind the fuse
abbrev pub fuse_view_of : {D : Type 0} → (D → DiskView) → FuseDisk D → DiskView
fuse_view_of disk fuse = fused (disk fuse.inner) fuse.made fuse.refused

-- the first calls are the inner disk's own, and each one after fails without reaching it
pub record Fuses {D T E : Type 0} (disk : D → DiskView) (old new : FuseDisk D) (answer : Result T E) : Type 0 where
  pub left : left_of new ≡ left_of old - 1
  pub passes : 0 < left_of old → Counts (disk (inner_of old)) (disk (inner_of new)) answer
  pub blown : left_of old ≡ 0 → IsErr answer × (inner_of new ≡ inner_of old)
