-- What is seen of files of the system: the counts, and nothing of what they hold.
use Rattle.std.specs.Prelude.{ℕ, false, [], ⊤}
use Rattle.disk_trait.specs.Past.{no_past}
use Rattle.file_disk.specs.declared.standard.StdFiles.{StdFiles}
use Rattle.file_disk.specs.Files.{FilesView}

-- files of which so many calls failed and so many were interrupted
abbrev pub std_view : ℕ → ℕ → FilesView
std_view faults interrupted = record {
  honest = false;
  reads = λ area. [];
  image = λ t area c. ⊤;
  past = no_past;
  moment = 0;
  locked = false;
  faults = faults;
  interrupted = interrupted;
}

-- what is seen of the system's files
abbrev pub std_view_of : {R D : Type 0} → StdFiles R D → FilesView
std_view_of files = std_view files.faults files.interrupted
