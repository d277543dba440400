-- What a run of calls leaves of a disk: the words for the layers above.
use Rattle.std.specs.Prelude.{ℕ, ◌≤◌, List}
use Rattle.disk_trait.specs.declared.disk.Area.{Area}
use Rattle.disk_trait.specs.Disk.{DiskView, Elapses, IsImage}

-- each way in which a crash now may leave the areas has P
abbrev pub IsFirm : DiskView → ((Area → List ℕ) → Type 0) → Type 0
IsFirm disk P = (areas : Area → List ℕ) → IsImage disk disk.moment areas → P areas

-- each way in which a crash at some moment since old may leave the areas has P
pub record LeavesOnly (old new : DiskView) (P : (Area → List ℕ) → Type 0) : Type 0 where
  pub time : Elapses old new
  pub each : (t : ℕ) (areas : Area → List ℕ) → old.moment ≤ t → t ≤ new.moment → IsImage new t areas → P areas
