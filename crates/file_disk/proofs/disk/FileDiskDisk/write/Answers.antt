use Rattle.file_disk.specs.Files.{areas_of}
use Rattle.file_disk.proofs.Counting.{handle_is, counted_writes}
use Rattle.file_disk.proofs.disk.FileDiskDisk.write.Goals as goal

pub returns-clause-writes : goal.returns-clause-writes
returns-clause-writes g c = rw (← c.self.view_is) (λ honest. rw (c.count.ensures.same)
    (counted_writes _ _ (handle_is g.F.CoreFiles.area c.self.inside.handles _ _ (c.self.invariant honest) c.of.ensures)
    (areas_of (g.F.CoreFiles.files c.self.inside.files)) (areas_of (g.F.CoreFiles.files c.write_full-answer.new.files)) _ _ _ _ _ _ _ (c.write_full-answer.ensures.writes honest)))
