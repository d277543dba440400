-- What is seen of the open files of a core's folder, and what single calls on them do.
use Rattle.std.specs.Prelude.{◌≡◌, ◌↔◌, ◌⊎◌, ℕ, ◌+◌, ◌-◌, ◌^◌, ◌<◌, ◌≤◌, min, Bool, IsTrue, List, ◌++◌, length, take, drop, Result, IfOk, IsErr, IsErrOf}
use Rattle.outside_traits.specs.Faults.{Rose, count_fault}
use Rattle.disk_trait.specs.declared.disk.Area.{Area}
use Rattle.disk_trait.specs.Disk.{DiskView, overlay, Torn, Touches, Keeps}
use Rattle.disk_trait.specs.Past.{Past}
use Rattle.file_disk.specs.declared.fault.CallFault.{CallFault}
use Rattle.file_disk.specs.declared.fault.CallFault.TheVariants.{Interrupted, Failed}

-- what is seen of files: what is seen of a disk but for its count of calls, whether they were locked, and how many
-- calls were interrupted
pub record FilesView : Type 1 where
  pub honest : Bool
  pub reads : Area → List ℕ
  pub image : ℕ → Area → List ℕ → Type 0
  pub past : Past
  pub moment : ℕ
  pub locked : Bool
  pub faults : ℕ
  pub interrupted : ℕ

-- files as a disk with these counts
abbrev pub as_disk : FilesView → ℕ → ℕ → DiskView
as_disk files calls faults = record {
  honest = files.honest;
  reads = files.reads;
  image = files.image;
  past = files.past;
  moment = files.moment;
  faults = faults;
  calls = calls;
}

-- files as a disk of which no call was made
abbrev pub areas_of : FilesView → DiskView
areas_of files = as_disk files 0 0

-- the areas, what they went through and what a crash may leave of them are as they were
pub record SameAreas (old new : FilesView) : Type 0 where
  pub reads : (area : Area) → new.reads area ≡ old.reads area
  pub images : (t : ℕ) (area : Area) (c : List ℕ) → (new.image t area c ↔ old.image t area c)
  pub past : new.past ≡ old.past
  pub moment : new.moment ≡ old.moment

-- files stay honest and locked, and the count of faults doesn't fall
pub record Steady (old new : FilesView) : Type 0 where
  pub honest : new.honest ≡ old.honest
  pub locked : IsTrue old.locked → IsTrue new.locked
  pub kept : old.faults ≤ new.faults

-- a call keeps files steady, and the count of faults rose where it failed
pub record Asks (old new : FilesView) (Fails : Type 0) : Type 0 where
  pub steady : Steady old new
  pub rose : Fails → Rose old.faults new.faults

-- a call that may be interrupted is counted where it was
pub record Tries {T : Type 0} (old new : FilesView) (answer : Result T CallFault) : Type 0 where
  pub asks : Asks old new (IsErrOf answer Failed)
  pub interrupted : IsErrOf answer Interrupted → new.interrupted ≡ count_fault old.interrupted

-- calls that are made again where they were interrupted: behind an Err one failed, or so many were interrupted that
-- their count stands at its type's end
pub record Retries {T E : Type 0} (old new : FilesView) (answer : Result T E) : Type 0 where
  pub steady : Steady old new
  pub cause : IsErr answer → Rose old.faults new.faults ⊎ (2 ^ 64 - 1 ≤ new.interrupted)

-- a read from here gives so many of the area's bytes, and none only at the area's end or into an empty buffer
pub record GivesFront (at : ℕ) (area old_into new_into : List ℕ) (n : ℕ) : Type 0 where
  pub most : n ≤ min (length old_into) (length area - at)
  pub some : n ≡ 0 → min (length old_into) (length area - at) ≡ 0
  pub below : at + n < 2 ^ 64
  pub bytes : new_into ≡ take n (drop at area) ++ drop n old_into

-- what one read does, which may be short
pub record ReadsSome {E : Type 0} (area : Area) (at : ℕ) (old_into new_into : List ℕ) (old new : FilesView) (answer : Result ℕ E) : Type 0 where
  pub keeps : Keeps (areas_of old) (areas_of new)
  pub past : new.past ≡ old.past
  pub ok : IfOk answer (GivesFront at (old.reads area) old_into new_into)

-- what one write does, which may be short: so many first bytes were written
pub record WritesSome {E : Type 0} (area : Area) (at : ℕ) (bytes : List ℕ) (old new : FilesView) (answer : Result ℕ E) : Type 0 where
  pub touches : Touches (Torn at (length bytes)) area (areas_of old) (areas_of new)
  pub ok : IfOk answer (λ n. new.reads area ≡ overlay at (take n bytes) (old.reads area))
  pub below : IfOk answer (λ n. at + n < 2 ^ 64)
