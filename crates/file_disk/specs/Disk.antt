-- What is seen of a disk of five files.
use Rattle.std.specs.Prelude.{◌≡◌, ℕ}
use Rattle.disk_trait.specs.declared.disk.Area.{Area}
use Rattle.disk_trait.specs.declared.disk.Area.TheVariants.{Oplog, Tree, BitsA, BitsB, Blocks}
use Rattle.disk_trait.specs.Disk.{DiskView}
use Rattle.file_disk.specs.declared.handles.Handles.{Handles}
use Rattle.file_disk.specs.Files.{FilesView, as_disk}

-- the handle of an area's file
abbrev pub handle_of : {H : Type 0} → Handles H → Area → H
handle_of all Oplog = all.oplog
handle_of all Tree = all.tree
handle_of all BitsA = all.bits_a
handle_of all BitsB = all.bits_b
handle_of all Blocks = all.blocks

-- each handle is of its area's file
pub record AreHandles {H : Type 0} (area_of : H → Area) (all : Handles H) : Type 0 where
  pub oplog : area_of all.oplog ≡ Oplog
  pub tree : area_of all.tree ≡ Tree
  pub bits_a : area_of all.bits_a ≡ BitsA
  pub bits_b : area_of all.bits_b ≡ BitsB
  pub blocks : area_of all.blocks ≡ Blocks

-- what is seen of a disk of five files: the files, and how many of its calls were made and how many failed
pub record FileDiskView (F : Type 0) : Type 0 where
  pub files : F
  pub calls : ℕ
  pub faults : ℕ

-- as a disk
abbrev pub file_view_of : {F : Type 0} → (F → FilesView) → FileDiskView F → DiskView
file_view_of files disk = as_disk (files disk.files) disk.calls disk.faults
