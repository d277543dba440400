-- What is seen of a shelf in memory.
use Rattle.std.specs.Prelude.{◌≡◌, ◌↔◌, ◌⊎◌, ℕ, Bool, true, false, List, [], Contains, Vec, Option, None, Some}
use Rattle.std.specs.declared.alloc.Global.{Global}
use Rattle.std.proofs.Common.{refl}
use Rattle.std.specs.Ordering.{nat_cmp}
use Rattle.std.specs.Cmp.Lexicographic.{slice_cmp}
use Rattle.std.specs.BTreeMap as tree
use Rattle.std.specs.BTreeMap.{BTreeMap}
use Rattle.std.specs.BTreeSet as set
use Rattle.std.specs.BTreeSet.{BTreeSet}
use Rattle.outside_traits.specs.Faults.{count_fault}
use Rattle.disk_trait.specs.declared.memory.Room.{Room}
use Rattle.disk_trait.specs.Disk.{DiskView}
use Rattle.disk_trait.specs.History.{MemDiskView, fresh, disk_view_of}
use Rattle.core_shelf.specs.declared.memory.Place.{Place}
use Rattle.core_shelf.specs.declared.memory.Place.TheVariants.{Here, Out}
use Rattle.core_shelf.specs.declared.memory.MemShelf.{MemShelf}
use Rattle.core_shelf.specs.Shelf.{ShelfView, Others}

-- the disk at a place: where none was made yet, an empty one with this room
abbrev pub disk_at : Room → Option Place → DiskView
disk_at room None = disk_view_of (fresh room)
disk_at room (Some (Here disk)) = disk_view_of disk
disk_at room (Some (Out count)) = disk_view_of (fresh room)

-- the disk at a place is out
abbrev pub is_out : Option Place → Bool
is_out None = false
is_out (Some (Here disk)) = false
is_out (Some (Out count)) = true

-- the count of faults with which the disk at a place went out
abbrev pub went_with : Option Place → ℕ
went_with None = 0
went_with (Some (Here disk)) = 0
went_with (Some (Out count)) = count

-- the disk at a place is here
abbrev pub is_here : Option Place → Bool
is_here None = false
is_here (Some (Here disk)) = true
is_here (Some (Out count)) = false

-- the count of faults of the disk that is here
abbrev pub faults_at : Option Place → ℕ
faults_at None = 0
faults_at (Some (Here disk)) = disk.faults
faults_at (Some (Out count)) = 0

-- the place once a disk was made for it
abbrev pub made : Room → Option Place → Option Place
made room None = Some (Here (fresh room))
made room (Some place) = Some place

-- the disk in memory at a place, where it isn't out
abbrev pub mem_disk_at : Room → Option Place → Option MemDiskView
mem_disk_at room None = Some (fresh room)
mem_disk_at room (Some (Here disk)) = Some disk
mem_disk_at room (Some (Out count)) = None

-- the place of an id
abbrev pub place_of : BTreeMap (List ℕ) Place → List ℕ → Option Place
place_of places id = tree.get (slice_cmp nat_cmp) places id

-- one id has this place, and the others have theirs
pub record Puts (id : List ℕ) (place : Option Place) (old new : BTreeMap (List ℕ) Place) : Type 0 where
  pub here : place_of new id ≡ place
  pub others : Others id (λ other. place_of new other ≡ place_of old other)

-- what is seen of a shelf with these ids on its list and these places, whose disks have this room
abbrev pub shelf_of : BTreeSet (List ℕ) → BTreeMap (List ℕ) Place → Room → ℕ → ShelfView
shelf_of marked places room faults = record {
  honest = true;
  marked = λ id. set.contains (slice_cmp nat_cmp) marked id;
  disk = λ id. disk_at room (place_of places id);
  out = λ id. is_out (place_of places id);
  went = λ id. went_with (place_of places id);
  faults = faults;
}

-- it tells all that a shelf may tell
abbrev pub shelf_view_of : MemShelf → ShelfView
shelf_view_of shelf = shelf_of shelf.marked shelf.places shelf.room shelf.plan.faults

-- the disk in memory of an id, where it isn't out
abbrev pub mem_disk_of : MemShelf → List ℕ → Option MemDiskView
mem_disk_of shelf id = mem_disk_at shelf.room (place_of shelf.places id)

-- the id's disk in memory is as it was, and in or out as it was
abbrev pub SameMemDisk : MemShelf → MemShelf → List ℕ → Type 0
SameMemDisk old new id = mem_disk_of new id ≡ mem_disk_of old id

-- the numbers of the calls that are to fail
abbrev pub planned_of : MemShelf → List ℕ
planned_of shelf = shelf.plan.calls.items

-- how many of the calls that have a number were made
abbrev pub made_of : MemShelf → ℕ
made_of shelf = shelf.plan.made

-- how many calls failed, and how many disks came back with a fault
abbrev pub faults_of : MemShelf → ℕ
faults_of shelf = shelf.plan.faults

-- this call is to fail
abbrev pub IsPlanned : MemShelf → Type 0
IsPlanned shelf = Contains (planned_of shelf) (made_of shelf)

-- a call that has a number is counted and keeps the plan; it fails where it is planned and nowhere else, and only then
-- the count of faults rises
pub record Plays (Fails : Type 0) (old new : MemShelf) : Type 0 where
  pub fails : Fails ↔ IsPlanned old
  pub made : made_of new ≡ count_fault (made_of old)
  pub planned : planned_of new ≡ planned_of old
  pub quiet : IsPlanned old ⊎ (faults_of new ≡ faults_of old)

-- an empty shelf whose disks have this room: no call was made, and none is to fail
pub record IsNew (room : Room) (shelf : MemShelf) : Type 0 where
  pub list : (id : List ℕ) → (shelf_view_of shelf).marked id ≡ false
  pub disks : (id : List ℕ) → mem_disk_of shelf id ≡ Some (fresh room)
  pub out : (id : List ℕ) → (shelf_view_of shelf).out id ≡ false
  pub planned : planned_of shelf ≡ []
  pub made : made_of shelf ≡ 0
  pub faults : faults_of shelf ≡ 0

-- the same shelf with another plan
abbrev pub with_plan : Vec ℕ Global → MemShelf → MemShelf
with_plan calls shelf = record shelf { plan = record shelf.plan { calls = calls } }

pub disk_at_tells : (room : Room) (place : Option Place) → (disk_at room place).honest ≡ true
disk_at_tells room None = refl
disk_at_tells room (Some (Here disk)) = refl
disk_at_tells room (Some (Out count)) = refl
