-- What opening, making and closing the core of a name does to a shelf.
use Rattle.std.specs.Prelude.{◌≡◌, ◌≢◌, ◌↔◌, ◌⊎◌, ℕ, false, true, IsTrue, List, Result, Ok, Err, OnErr, IsErrOf}
use Rattle.core_keys.specs.Keys.{default_namespace, name_key_of, discovery_of}
use Rattle.outside_traits.specs.Faults.{Rose}
use Rattle.disk_trait.specs.Disk.{DiskView}
use Rattle.node_set.specs.declared.fault.CoreFault.{CoreFault}
use Rattle.node_set.specs.declared.fault.CoreFault.TheVariants.{Memory, StoreFault}
use Rattle.core_state.specs.Handing.{SameDisk, GoesOn}
use Rattle.core_shelf.specs.declared.fault.ShelfFault.{ShelfFault}
use Rattle.core_shelf.specs.declared.fault.ShelfFault.TheVariants.{Failed, Memory as ShelfMemory}
use Rattle.core_shelf.specs.declared.fault.NamedFault.{NamedFault}
use Rattle.core_shelf.specs.declared.fault.NamedFault.TheVariants.{NoCore, CoreExists, Core}
use Rattle.core_shelf.specs.Shelf.{ShelfView, Counts, Others, SamePlace}

-- the key of the core of a name in the default namespace
abbrev pub key_of : List ℕ → List ℕ → List ℕ
key_of primary name = name_key_of primary default_namespace name

-- its id: the discovery id of its public key
abbrev pub id_of : (List ℕ → List ℕ) → List ℕ → List ℕ → List ℕ
id_of public primary name = discovery_of (public (key_of primary name))

-- a fault of the shelf, as one of a core
abbrev pub core_fault_of : ShelfFault → CoreFault
core_fault_of ShelfMemory = Memory
core_fault_of Failed = StoreFault

-- the id's disk is on the shelf, as far as the shelf tells
abbrev pub IsHome : List ℕ → ShelfView → Type 0
IsHome id shelf = IsTrue shelf.honest → shelf.out id ≡ false

-- the id's disk is as it was and where it was, and the id is on the list where it was
pub record Stays (id : List ℕ) (old new : ShelfView) : Type 0 where
  pub place : SamePlace old new id
  pub list : new.marked id ≡ old.marked id

-- what calls for one id keep: the other ids' disks, and the counts with which these went out
pub record KeepsOthers (id : List ℕ) (old new : ShelfView) : Type 0 where
  pub counts : Counts old new
  pub went : Others id (λ other. new.went other ≡ old.went other)
  pub places : IsTrue old.honest → Others id (SamePlace old new)

-- What a call for the core of an id keeps, whatever it answers: with a fault the id's disk is on the shelf, and a fault of the
-- store comes only where the shelf's count of faults rose.
pub record CallsFor {C E : Type 0} (store_fault : E) (id : List ℕ) (old new : ShelfView) (answer : Result C E) : Type 0 where
  pub others : KeepsOthers id old new
  pub back : OnErr answer (IsHome id new)
  pub cause : IsErrOf answer store_fault → Rose old.faults new.faults

-- The core stands on the disk that the shelf had for the id, with which it is told what is said of the two. The disk is out, and
-- with which count it went is kept.
pub record TakesOut {S C : Type 0} (disk : S → DiskView) (disk_of : C → DiskView) (Says : DiskView → C → Type 0)
    (id : List ℕ) (old new : ShelfView) (core : C) : Type 0 where
  pub store : S
  pub says : Says (disk store) core
  pub goes_on : GoesOn (disk store) (disk_of core)
  pub went : new.went id ≡ (disk store).faults
  pub was : IsTrue old.honest → SameDisk (old.disk id) (disk store)
  pub out : IsTrue old.honest → new.out id ≡ true

-- why an id isn't found unlisted: it is on the list, or the shelf failed
abbrev pub RefusesListed : List ℕ → ShelfView → ShelfView → NamedFault → Type 0
RefusesListed id old new CoreExists = IsTrue old.honest → old.marked id ≡ true
RefusesListed id old new (Core fault) = (fault ≡ StoreFault) × Rose old.faults new.faults
RefusesListed id old new NoCore = ⊥

-- the shelf failed, or memory was wanting, and the id's disk is on the shelf as it was
pub record FailsAtOnce (id : List ℕ) (old new : ShelfView) (fault : CoreFault) : Type 0 where
  pub why : (fault ≡ StoreFault) ⊎ (fault ≡ Memory)
  pub stays : IsTrue old.honest → Stays id old new

-- the disk that the shelf had for the id came back with the core's fault, which tells of it before and after, and is on the shelf
pub record BringsBack {S : Type 0} (disk : S → DiskView) (Says : DiskView → CoreFault → DiskView → Type 0)
    (id : List ℕ) (old new : ShelfView) (fault : CoreFault) : Type 0 where
  pub store : S
  pub back : S
  pub says : Says (disk store) fault (disk back)
  pub was : IsTrue old.honest → SameDisk (old.disk id) (disk store)
  pub here : IsTrue old.honest → SameDisk (disk back) (new.disk id)
  pub list : IsTrue old.honest → new.marked id ≡ old.marked id

-- The core was made on the disk that the shelf had for the id, but marking the id failed or wanted memory: the id is on the list or
-- not, and the core's disk is on the shelf.
pub record NotMarked {S C : Type 0} (disk : S → DiskView) (disk_of : C → DiskView) (Says : DiskView → C → Type 0)
    (id : List ℕ) (old new : ShelfView) (fault : CoreFault) : Type 0 where
  pub why : (fault ≡ StoreFault) ⊎ (fault ≡ Memory)
  pub store : S
  pub core : C
  pub says : Says (disk store) core
  pub was : IsTrue old.honest → SameDisk (old.disk id) (disk store)
  pub here : IsTrue old.honest → SameDisk (disk_of core) (new.disk id)

-- a core was opened from the id's disk, or why not
abbrev pub Opens : {S C : Type 0} → (S → DiskView) → (C → DiskView) → (DiskView → C → Type 0) → (DiskView → CoreFault → DiskView → Type 0)
    → List ℕ → ShelfView → ShelfView → Result C CoreFault → Type 0
Opens disk disk_of IsOpened OpenFails id old new (Ok core) = TakesOut disk disk_of IsOpened id old new core
Opens disk disk_of IsOpened OpenFails id old new (Err fault) = FailsAtOnce id old new fault ⊎ BringsBack disk OpenFails id old new fault

-- a core was made on the id's disk, or why not
abbrev pub Makes : {S C : Type 0} → (S → DiskView) → (C → DiskView) → (DiskView → C → Type 0) → (DiskView → CoreFault → DiskView → Type 0)
    → List ℕ → ShelfView → ShelfView → Result C CoreFault → Type 0
Makes disk disk_of IsMade MakeFails id old new (Ok core) = TakesOut disk disk_of IsMade id old new core
Makes disk disk_of IsMade MakeFails id old new (Err fault) =
    FailsAtOnce id old new fault ⊎ (BringsBack disk MakeFails id old new fault ⊎ NotMarked disk disk_of IsMade id old new fault)

-- by the list the call is refused, and then this holds; or what comes of the core tells that
abbrev pub RefusesOr : {C : Type 0} → NamedFault → Type 0 → (Result C CoreFault → Type 0) → Result C NamedFault → Type 0
RefusesOr refusal Holds Tells (Ok core) = Tells (Ok core)
RefusesOr refusal Holds Tells (Err (Core fault)) = Tells (Err fault)
RefusesOr refusal Holds Tells (Err other) = (other ≡ refusal) × Holds

-- the refusal comes exactly where this holds of the list, unless the store failed
abbrev pub IsRefused : {C : Type 0} → NamedFault → Type 0 → Result C NamedFault → Type 0
IsRefused refusal Where answer = IsErrOf answer refusal ↔ (Where × (answer ≢ Err (Core StoreFault)))
