-- When a crash can't take from a core's disk what it stands for, and what a change leaves of it at each moment.
use Rattle.std.specs.Prelude.{◌≡◌, ◌⊎◌, ℕ, ◌≤◌, Bool, true, List, [], ◌∷◌, Option, Result, Ok, OnOk}
use Rattle.disk_trait.specs.declared.disk.Area.TheVariants.{Oplog, Tree, BitsA, BitsB, Blocks as BlocksArea}
use Rattle.disk_trait.specs.Disk.{DiskView, Elapses, Rests, IsSynced, IsImage}
use Rattle.oplog_form.specs.declared.entry.Entry.{Entry}
use Rattle.oplog_form.specs.Entries.{entry_spelling}
use Rattle.oplog_file.specs.Files.{File, IsFile, next_frame, NoChance}
use Rattle.oplog_file.specs.Writers.{Place, IsBehind, IsTrim, IsFirmFile, with_entry}
use Rattle.node_set.specs.Contents.{Content}
use Rattle.node_set.specs.Whole.{IsWhole}
use Rattle.core_disk.specs.Opened.{Opened}
use Rattle.core_disk.specs.Areas.{Areas, file_gives}
use Rattle.core_disk.specs.Standing.{IsOpenedAs, HasBlocks, StandsFor}
use Rattle.core_disk.specs.Plans.{Part, laid, TornBy}

-- The disk of a core in hand, of which this is the place in the change file, stands for a whole content now and after each crash:
-- the file, behind whose entries the place is, is there in each; each held block stands at its offset in each; and the areas that
-- no commit writes are synced.
pub record IsFirmFor (accepts : List ℕ → List ℕ → Bool) (id : List ℕ) (disk : DiskView) (place : Place) (m : Content) : Type 0 where
  pub whole : IsWhole accepts m
  pub file : File
  pub behind : IsBehind place file
  pub is_file : IsFile (disk.reads Oplog) file
  pub trim : IsTrim file (disk.reads Oplog)
  pub firm_file : IsFirmFile file disk
  pub opened : Opened
  pub gives : file_gives id disk.reads file ≡ Ok opened
  pub opened_as : IsOpenedAs opened m
  pub blocks : (c : List ℕ) → disk.image disk.moment BlocksArea c → HasBlocks c m
  pub tree : IsSynced Tree disk
  pub bits_a : IsSynced BitsA disk
  pub bits_b : IsSynced BitsB disk

-- the areas that no commit writes rest
pub record RestsElse (old new : DiskView) : Type 0 where
  pub tree : Rests Tree old new
  pub bits_a : Rests BitsA old new
  pub bits_b : Rests BitsB old new

-- a crash left the file as it was, and what was to be written to the blocks may be torn
pub record IsBefore (file : File) (part : Option Part) (old : DiskView) (oplog blocks : List ℕ) : Type 0 where
  pub is_file : IsFile oplog file
  pub base : List ℕ
  pub could : old.image old.moment BlocksArea base
  pub torn : TornBy part base blocks

-- a crash left the file with the entry, and what was to be written to the blocks is there
pub record IsAfter (file : File) (part : Option Part) (payload : List ℕ) (old : DiskView) (oplog blocks : List ℕ) : Type 0 where
  pub is_file : IsFile oplog (with_entry payload file)
  pub base : List ℕ
  pub could : old.image old.moment BlocksArea base
  pub written : blocks ≡ laid part base

-- the file with the entry is there now and after each crash, and so are the blocks' bytes
pub record IsCommitted (file : File) (part : Option Part) (payload : List ℕ) (old new : DiskView) : Type 0 where
  pub is_file : IsFile (new.reads Oplog) (with_entry payload file)
  pub trim : IsTrim (with_entry payload file) (new.reads Oplog)
  pub firm_file : IsFirmFile (with_entry payload file) new
  pub reads : new.reads BlocksArea ≡ laid part (old.reads BlocksArea)
  pub blocks : (c : List ℕ) → new.image new.moment BlocksArea c → (base : List ℕ) × old.image old.moment BlocksArea base × (c ≡ laid part base)

-- Blocks' bytes are written and synced, if there are some, and then an entry behind a file: at each moment a crash leaves what was
-- there before the change or what is there after it, but for what makes frames by chance.
pub record WritesChange {T E : Type 0} (file : File) (part : Option Part) (payload : List ℕ) (old new : DiskView) (answer : Result T E) : Type 0 where
  pub time : Elapses old new
  pub rest : RestsElse old new
  pub torn : TornBy part (old.reads BlocksArea) (new.reads BlocksArea)
  pub any_moment : IsFirmFile file old → (t : ℕ) (oplog blocks : List ℕ) → old.moment ≤ t → t ≤ new.moment
      → new.image t Oplog oplog → new.image t BlocksArea blocks → NoChance (next_frame file payload ∷ []) (old.reads Oplog) oplog
      → IsBefore file part old oplog blocks ⊎ IsAfter file part payload old oplog blocks
  pub ok : IsFile (old.reads Oplog) file → IsTrim file (old.reads Oplog) → OnOk answer (IsCommitted file part payload old new)

-- At each moment of a change a crash leaves areas that stand for the content before it or for the one after it, but for what makes
-- frames by chance; once it is acknowledged, all do for the one after it.
pub record Commits {T E : Type 0} (accepts : List ℕ → List ℕ → Bool) (id : List ℕ) (m : Content) (e : Entry) (after : Content) (old new : DiskView) (place : Place) (answer : Result T E) : Type 0 where
  pub time : Elapses old new
  pub file : File
  pub is_file : IsFile (old.reads Oplog) file
  pub any_moment : (t : ℕ) (areas : Areas) → old.moment ≤ t → t ≤ new.moment → IsImage new t areas
      → NoChance (next_frame file (entry_spelling e) ∷ []) (old.reads Oplog) (areas Oplog)
      → StandsFor accepts id areas m ⊎ StandsFor accepts id areas after
  pub ok : OnOk answer (IsFirmFor accepts id new place after)

-- the disk stands for the content, as it reads and after each crash
pub record StandsFirmly (accepts : List ℕ → List ℕ → Bool) (id : List ℕ) (disk : DiskView) (m : Content) : Type 0 where
  pub honest : disk.honest ≡ true
  pub reads : StandsFor accepts id disk.reads m
  pub images : (areas : Areas) → IsImage disk disk.moment areas → StandsFor accepts id areas m
