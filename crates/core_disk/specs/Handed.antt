-- What is told of a core that was made or opened on a disk, and of the disk where none was.
use Rattle.std.specs.Prelude.{◌≡◌, ◌⊎◌, ℕ, Bool, List, None, Ok, Err, IsTrue}
use Rattle.disk_trait.specs.declared.disk.Area.TheVariants.{Blocks as BlocksArea}
use Rattle.disk_trait.specs.Disk.{DiskView}
use Rattle.disk_trait.specs.Runs.{LeavesOnly}
use Rattle.node_set.specs.declared.fault.CoreFault.{CoreFault}
use Rattle.node_set.specs.declared.fault.CoreFault.TheVariants.{Memory, StoreFault}
use Rattle.merkle_nodes.specs.Roots.{Accepts}
use Rattle.node_set.specs.Contents.{Content, start, roots}
use Rattle.core_disk.specs.Areas.{head_of}
use Rattle.core_disk.specs.Standing.{StandsFor}
use Rattle.core_disk.specs.Firm.{IsFirmFor}
use Rattle.core_disk.specs.Parts.{OpensStore, StayOrStand}
use Rattle.core_disk.specs.Cored.{Cored, shown}

-- the core without blocks was made on a disk
pub record IsMadeOn {D A : Type 0} (disk : D → DiskView) (authority : A → List ℕ → List ℕ → Bool) (accepts : List ℕ → List ℕ → Bool) (id : List ℕ) (old : DiskView) (core : Cored D A) : Type 0 where
  pub by : authority core.auth ≡ accepts
  pub unbroken : core.broken ≡ None
  pub honest : (disk core.store.disk).honest ≡ old.honest
  pub content : shown disk core ≡ start
  pub firm : IsTrue old.honest → IsFirmFor accepts id (disk core.store.disk) core.place start

-- why none was made
abbrev pub IsMakeFault : CoreFault → Type 0
IsMakeFault fault = (fault ≡ Memory) ⊎ (fault ≡ StoreFault)

-- What opening a core does to a disk that stands for a content: at each moment a crash leaves what it could before, or areas that stand
-- for it; and the blocks read as they did.
pub record LeavesContent (accepts : List ℕ → List ℕ → Bool) (id : List ℕ) (old new : DiskView) : Type 0 where
  pub honest : new.honest ≡ old.honest
  pub blocks : IsTrue old.honest → new.reads BlocksArea ≡ old.reads BlocksArea
  pub any_moment : (m : Content) → IsTrue old.honest → StandsFor accepts id old.reads m → LeavesOnly old new (StayOrStand accepts id old m)

-- the head is accepted, or was never signed
abbrev pub HasAcceptedHead : (List ℕ → List ℕ → Bool) → Content → Type 0
HasAcceptedHead accepts m = Accepts accepts m.fork m.length (roots m) m.signature ⊎ (head_of m ≡ head_of start)

-- A core was opened on a disk: in memory is what its areas give, under a head that is accepted; where they stand for a content the core has
-- that, and a crash can't take it.
pub record IsOpenedOn {D A : Type 0} (disk : D → DiskView) (authority : A → List ℕ → List ℕ → Bool) (accepts : List ℕ → List ℕ → Bool) (id : List ℕ) (old : DiskView) (core : Cored D A) : Type 0 where
  pub by : authority core.auth ≡ accepts
  pub unbroken : core.broken ≡ None
  pub signed : HasAcceptedHead accepts (shown disk core)
  pub opens : IsTrue old.honest → OpensStore accepts id old.reads (Ok (core.place, core.store.hand))
  pub content : (m : Content) → IsTrue old.honest → StandsFor accepts id old.reads m → shown disk core ≡ m
  pub firm : (m : Content) → IsTrue old.honest → StandsFor accepts id old.reads m → IsFirmFor accepts id (disk core.store.disk) core.place m
  pub leaves : LeavesContent accepts id old (disk core.store.disk)

-- none was opened, by the first fault of its areas
pub record IsNotOpened (accepts : List ℕ → List ℕ → Bool) (id : List ℕ) (old : DiskView) (fault : CoreFault) (new : DiskView) : Type 0 where
  pub opens : IsTrue old.honest → OpensStore accepts id old.reads (Err fault)
  pub gives : (m : Content) → IsTrue old.honest → StandsFor accepts id old.reads m → (fault ≡ Memory) ⊎ (fault ≡ StoreFault)
  pub leaves : LeavesContent accepts id old new
