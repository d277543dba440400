-- What a disk in memory keeps: the steps that changed it, what they make of its areas, and what a crash may leave.
use Rattle.std.specs.Prelude.{◌≡◌, ◌⊎◌, ℕ, ◌^◌, ◌-◌, ◌<◌, nat_lt, MatchBool, true, if◌then◌else◌, List, [], ◌∷◌, length, take, Result, is_ok, ⊤}
use Rattle.std.specs.List.{Contains}
use Rattle.disk_trait.specs.declared.disk.Area.{Area}
use Rattle.disk_trait.specs.declared.memory.Room.{Room}
use Rattle.disk_trait.specs.Disk.{DiskView, is_same, overlay, Torn, Cut}
use Rattle.disk_trait.specs.Contents.{Contents, FilesView, content_of, with_content, empty}
pub use Rattle.disk_trait.specs.Past.{Change, wrote, cut_to, synced, Step}

-- an area's bytes after a change
abbrev pub changed : Change → List ℕ → List ℕ
changed (wrote at bytes) old = overlay at bytes old
changed (cut_to to) old = take to old
changed synced old = old

-- all areas after a step
abbrev pub after : Step → Contents → Contents
after step all = with_content step.area (changed step.change (content_of all step.area)) all

-- what the areas have after these steps, of which the newest comes first
abbrev pub now_of : Contents → List Step → Contents
now_of start [] = start
now_of start (step ∷ earlier) = after step (now_of start earlier)

-- the steps of the calls before this one, where the newest comes first
abbrev pub until : ℕ → List Step → List Step
until call [] = []
until call (step ∷ earlier) = if nat_lt step.call call then step ∷ earlier else until call earlier

-- What a crash may make of an area after a change: a sync leaves what the area has, and each other change leaves a part
-- of itself on top of what could be left before.
abbrev pub Takes : Change → List ℕ → (List ℕ → Type 0) → List ℕ → Type 0
Takes (wrote at bytes) now before c = (d : List ℕ) × before d × Torn at (length bytes) d c
Takes (cut_to to) now before c = (d : List ℕ) × before d × Cut to d c
Takes synced now before c = c ≡ now

-- what a crash after these steps may leave of an area, where the newest comes first
abbrev pub Leaves : Contents → List Step → Area → List ℕ → Type 0
Leaves start [] area c = c ≡ content_of start area
Leaves start (step ∷ earlier) area c =
    MatchBool (is_same step.area area)
    (Takes step.change (content_of (now_of start earlier) area) (Leaves start earlier area) c)
    (Leaves start earlier area c)

-- each step was made before this call, where the newest comes first
abbrev pub AreBefore : ℕ → List Step → Type 0
AreBefore call [] = ⊤
AreBefore call (step ∷ earlier) = step.call < call

-- a disk in memory: what its areas had at first, its steps since, its room, what is left of its journal's, the numbers
-- of the calls that are to fail, how many calls were made, and how many failed
pub record MemDiskView : Type 0 where
  pub start : Contents
  pub steps : List Step
  pub room : Room
  pub left : ℕ
  pub planned : List ℕ
  pub made : ℕ
  pub faults : ℕ

-- a disk with all its room, and nothing in it
abbrev pub fresh : Room → MemDiskView
fresh room = record { start = empty; steps = []; room = room; left = room.journal; planned = []; made = 0; faults = 0 }

-- it tells all that a disk may tell, and its clock is the number of its calls
abbrev pub disk_view_of : MemDiskView → DiskView
disk_view_of disk = record {
  honest = true;
  reads = content_of (now_of disk.start (until disk.made disk.steps));
  image = λ t. Leaves disk.start (until t disk.steps);
  past = record { start = disk.start; steps = until disk.made disk.steps };
  moment = disk.made;
  faults = disk.faults;
  calls = disk.made;
}

-- the areas are what the steps made of what they had at first, with memory for all their room, and each step was made
-- before this call
pub record IsConsistent (start : Contents) (files : FilesView) (steps : List Step) (room : Room) (made : ℕ) : Type 0 where
  pub same : files.all ≡ now_of start steps
  pub taken : files.room ≡ room.bytes
  pub before : AreBefore made steps

-- this call is to fail: it is planned, or the count of calls is at its end
abbrev pub IsRefused : MemDiskView → Type 0
IsRefused disk = Contains disk.planned disk.made ⊎ (disk.made ≡ 2 ^ 64 - 1)

-- a call keeps the plan and the room, and takes so many bytes of the journal's where it succeeds
pub record Spends {T E : Type 0} (bytes : ℕ) (old new : MemDiskView) (answer : Result T E) : Type 0 where
  pub room : new.room ≡ old.room
  pub planned : new.planned ≡ old.planned
  pub left : new.left ≡ (if is_ok answer then old.left - bytes else old.left)
