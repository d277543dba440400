-- The disk of a core as it is handed in and out.
use Rattle.std.specs.Prelude.{◌≡◌, ◌↔◌, ℕ, ◌≤◌, List, Result, MatchResult}
use Rattle.outside_traits.specs.Faults.{Rose}
use Rattle.disk_trait.specs.declared.disk.Area.{Area}
use Rattle.disk_trait.specs.Disk.{DiskView}
use Rattle.node_set.specs.declared.fault.CoreFault.{CoreFault}
use Rattle.node_set.specs.declared.fault.CoreFault.TheVariants.{StoreFault}

-- a disk as it was: what it reads as, what a crash may leave of it, its clock and its counts
pub record SameDisk (old new : DiskView) : Type 0 where
  pub honest : new.honest ≡ old.honest
  pub reads : (area : Area) → new.reads area ≡ old.reads area
  pub images : (t : ℕ) (area : Area) (c : List ℕ) → (new.image t area c ↔ old.image t area c)
  pub moment : new.moment ≡ old.moment
  pub faults : new.faults ≡ old.faults
  pub calls : new.calls ≡ old.calls

-- a disk goes on: it is honest and tells whether it was, and its count of faults didn't fall
pub record GoesOn (old new : DiskView) : Type 0 where
  pub honest : new.honest ≡ old.honest
  pub faults : old.faults ≤ new.faults

-- a disk comes back with a fault, which is one of the store only where the disk's count of faults rose
pub record ComesBack (old new : DiskView) (fault : CoreFault) : Type 0 where
  pub honest : new.honest ≡ old.honest
  pub faults : old.faults ≤ new.faults
  pub rose : fault ≡ StoreFault → Rose old.faults new.faults

-- a disk that is handed in is in the core, or comes back with the fault
abbrev pub HandsIn : {C S : Type 0} → (S → DiskView) → (C → DiskView) → DiskView → Result C (CoreFault × S) → Type 0
HandsIn disk disk_of old answer = MatchResult answer (λ core. GoesOn old (disk_of core)) (λ back. ComesBack old (disk back.1) back.0)
