-- What is seen of a shelf of cores, and what its calls do to it.
use Rattle.std.specs.Prelude.{◌≡◌, ℕ, ◌≤◌, Bool, true, false, List, Vec, Result, IfOk, OnOk, OnErr, IsErrOf}
use Rattle.std.specs.declared.alloc.Global.{Global}
use Rattle.std.specs.Ordering.{nat_cmp}
use Rattle.std.specs.Cmp.Lexicographic.{slice_cmp}
use Rattle.std.specs.List.{list_any}
use Rattle.std.specs.List.Sorted.{IsStrictlySortedBy}
use Rattle.std.specs.Str.{bytes_eq}
use Rattle.outside_traits.specs.Faults.{Rose}
use Rattle.disk_trait.specs.Disk.{DiskView}
use Rattle.core_state.specs.Handing.{SameDisk}
use Rattle.core_shelf.specs.declared.fault.ShelfFault.{ShelfFault}
use Rattle.core_shelf.specs.declared.fault.ShelfFault.TheVariants.{Failed}

-- what is seen of a shelf: whether it answers as it tells, which ids are on its list, the disk of each id, which ids'
-- disks are out, the count of faults that each of these had as it went out, and the shelf's own count
pub record ShelfView : Type 1 where
  pub honest : Bool
  pub marked : List ℕ → Bool
  pub disk : List ℕ → DiskView
  pub out : List ℕ → Bool
  pub went : List ℕ → ℕ
  pub faults : ℕ

-- the id is among these
abbrev pub is_among : List (List ℕ) → List ℕ → Bool
is_among ids id = list_any (bytes_eq id) ids

-- each id is below those after it, byte by byte: so none stands twice
abbrev pub AreInOrder : List (List ℕ) → Type 0
AreInOrder = IsStrictlySortedBy (slice_cmp nat_cmp)

-- an id's disk is as it was, and in or out as it was
pub record SamePlace (old new : ShelfView) (id : List ℕ) : Type 0 where
  pub disk : SameDisk (old.disk id) (new.disk id)
  pub out : new.out id ≡ old.out id

-- this holds of each id but one
abbrev pub Others : List ℕ → (List ℕ → Type 0) → Type 0
Others id P = (other : List ℕ) → bytes_eq id other ≡ false → P other

-- the list is as it was
abbrev pub KeepsList : ShelfView → ShelfView → Type 0
KeepsList old new = (id : List ℕ) → new.marked id ≡ old.marked id

-- each disk is as it was and where it was
abbrev pub KeepsDisks : ShelfView → ShelfView → Type 0
KeepsDisks old new = (id : List ℕ) → SamePlace old new id

-- a call keeps a shelf honest and tells whether it was, and the count doesn't fall
pub record Counts (old new : ShelfView) : Type 0 where
  pub honest : new.honest ≡ old.honest
  pub faults : old.faults ≤ new.faults

-- no disk went out
abbrev pub KeepsOut : ShelfView → ShelfView → Type 0
KeepsOut old new = (id : List ℕ) → new.went id ≡ old.went id

-- `Failed` comes only where the count of faults rose; want of memory is no fault of the outside
abbrev pub FailsWhereRose : {T : Type 0} → ShelfView → ShelfView → Result T ShelfFault → Type 0
FailsWhereRose old new answer = IsErrOf answer Failed → Rose old.faults new.faults

-- what asking for the list does: it gives the ids on it in byte order, each once
pub record Lists (old new : ShelfView) (answer : Result (Vec (List ℕ) Global) ShelfFault) : Type 0 where
  pub list : KeepsList old new
  pub disks : KeepsDisks old new
  pub ordered : IfOk answer (λ ids. AreInOrder ids.items)
  pub exact : IfOk answer (λ ids. (id : List ℕ) → is_among ids.items id ≡ old.marked id)

-- what asking for an id does
pub record Has {E : Type 0} (id : List ℕ) (old new : ShelfView) (answer : Result Bool E) : Type 0 where
  pub list : KeepsList old new
  pub disks : KeepsDisks old new
  pub ok : IfOk answer (λ found. found ≡ old.marked id)

-- the count of faults that a disk has as it goes out is kept, and so are those of the disks that are out
pub record CountsOut {S : Type 0} (disk : S → DiskView) (id : List ℕ) (old new : ShelfView) (answer : Result S ShelfFault) : Type 0 where
  pub others : Others id (λ other. new.went other ≡ old.went other)
  pub ok : IfOk answer (λ store. new.went id ≡ (disk store).faults)

-- what taking an id's disk does: it is that disk, and it is out
pub record Takes {S : Type 0} (disk : S → DiskView) (id : List ℕ) (old new : ShelfView) (answer : Result S ShelfFault) : Type 0 where
  pub list : KeepsList old new
  pub others : Others id (SamePlace old new)
  pub ok : IfOk answer (λ store. SameDisk (old.disk id) (disk store))
  pub out : OnOk answer (new.out id ≡ true)
  pub err : OnErr answer (SamePlace old new id)

-- the count of faults rises where that of the disk rose since it went out, and the counts of the other disks that are
-- out are kept
pub record CountsIn (store : DiskView) (id : List ℕ) (old new : ShelfView) : Type 0 where
  pub others : Others id (λ other. new.went other ≡ old.went other)
  pub rises : Rose (old.went id) store.faults → Rose old.faults new.faults

-- what giving a disk back does: the id's disk is that one, and it is in
pub record Gives (store : DiskView) (id : List ℕ) (old new : ShelfView) : Type 0 where
  pub list : KeepsList old new
  pub others : Others id (SamePlace old new)
  pub here : SameDisk store (new.disk id)
  pub back : new.out id ≡ false

-- what putting an id on the list does: after a fault it is on it or not, as it was or as it would be
pub record Marks {T : Type 0} (id : List ℕ) (old new : ShelfView) (answer : Result T ShelfFault) : Type 0 where
  pub disks : KeepsDisks old new
  pub others : Others id (λ other. new.marked other ≡ old.marked other)
  pub ok : OnOk answer (new.marked id ≡ true)
  pub kept : old.marked id ≡ true → new.marked id ≡ true
