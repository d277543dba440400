-- A change of what a core's disk stands for: what it is made of, and what is left where it failed.
use Rattle.std.specs.Prelude.{◌⊎◌, ℕ, Bool, List, [], ◌∷◌, Option, Result, OnOk}
use Rattle.disk_trait.specs.declared.disk.Area.TheVariants.{Oplog, Blocks as BlocksArea}
use Rattle.disk_trait.specs.Disk.{DiskView, IsImage}
use Rattle.commit_book.specs.declared.commit.Commit.{Commit}
use Rattle.oplog_form.specs.declared.entry.Entry.{Entry}
use Rattle.oplog_form.specs.Entries.{entry_spelling}
use Rattle.oplog_file.specs.Files.{File, IsFile, next_frame, NoChance}
use Rattle.oplog_file.specs.Writers.{Place, IsBehind, with_entry}
use Rattle.node_set.specs.Contents.{Content}
use Rattle.core_disk.specs.Areas.{Areas}
use Rattle.core_disk.specs.Standing.{HasBlocks, StandsFor}
use Rattle.core_disk.specs.Plans.{Part, Plans}
use Rattle.core_disk.specs.Firm.{IsFirmFor, WritesChange}

-- A firm disk was given a planned change: what it brings was written, and after Ok the place is behind its entry.
pub record MakesChange {T E : Type 0} (accepts : List ℕ → List ℕ → Bool) (id : List ℕ) (m : Content) (commit : Commit)
    (after : Content) (e : Entry) (part : Option Part) (place now : Place) (old new : DiskView) (answer : Result T E) : Type 0 where
  pub firm : IsFirmFor accepts id old place m
  pub plans : Plans accepts m commit after e part
  pub writes : (file : File) → IsBehind place file → WritesChange file part (entry_spelling e) old new answer
  pub behind : (file : File) → IsBehind place file → OnOk answer (IsBehind now (with_entry (entry_spelling e) file))

-- A change was given to a disk whose change file read as this, and may have failed: what a crash leaves now stands for the content
-- before it or for the one after it, but for what makes frames by chance, and the blocks that were held are where they were.
pub record IsLeftBetween (accepts : List ℕ → List ℕ → Bool) (id oplog : List ℕ) (m : Content) (e : Entry) (after : Content)
    (disk : DiskView) : Type 0 where
  pub file : File
  pub is_file : IsFile oplog file
  pub either : (areas : Areas) → IsImage disk disk.moment areas → NoChance (next_frame file (entry_spelling e) ∷ []) oplog (areas Oplog)
      → StandsFor accepts id areas m ⊎ StandsFor accepts id areas after
  pub blocks : HasBlocks (disk.reads BlocksArea) m
