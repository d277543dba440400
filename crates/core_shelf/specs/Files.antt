-- What is seen of a folder of files and of a folder of cores: the counts, and nothing of what they hold.
use Rattle.std.specs.Prelude.{ℕ, false, [], ⊤}
use Rattle.disk_trait.specs.Past.{no_past}
use Rattle.disk_trait.specs.Disk.{DiskView}
use Rattle.core_shelf.specs.declared.files.FileDisk.{FileDisk}
use Rattle.core_shelf.specs.declared.folder.FolderShelf.{FolderShelf}
use Rattle.core_shelf.specs.Shelf.{ShelfView}

-- the disk of five files, of which so many calls were made and so many failed
abbrev pub files_view : ℕ → ℕ → DiskView
files_view calls faults = record { honest = false; reads = λ area. []; image = λ t area c. ⊤; past = no_past; moment = 0; faults = faults; calls = calls }

-- what is seen of the disk of five files
abbrev pub files_view_of : FileDisk → DiskView
files_view_of disk = files_view disk.calls disk.faults

-- the shelf over a folder, whose disks go out with no fault so far
abbrev pub folder_view : ℕ → ShelfView
folder_view faults = record { honest = false; marked = λ id. false; disk = λ id. files_view 0 0; out = λ id. false; went = λ id. 0; faults = faults }

-- how many calls of the shelf over a folder failed, and how many disks came back with a fault
abbrev pub folder_faults_of : {R D : Type 0} → FolderShelf R D → ℕ
folder_faults_of shelf = shelf.faults

-- what is seen of the shelf over a folder
abbrev pub folder_view_of : {R D : Type 0} → FolderShelf R D → ShelfView
folder_view_of shelf = folder_view shelf.faults
