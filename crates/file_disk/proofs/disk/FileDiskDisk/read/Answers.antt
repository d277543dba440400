use Rattle.file_disk.specs.Files.{areas_of}
use Rattle.file_disk.proofs.Counting.{handle_is, counted_reads}
use Rattle.file_disk.proofs.disk.FileDiskDisk.read.Goals as goal

pub returns-clause-reads : goal.returns-clause-reads
returns-clause-reads g c = rw (← c.self.view_is) (λ honest. rw (c.count.ensures.same)
    (counted_reads _ _ (handle_is g.F.CoreFiles.area c.self.inside.handles _ _ (c.self.invariant honest) c.of.ensures)
    (areas_of (g.F.CoreFiles.files c.self.inside.files)) (areas_of (g.F.CoreFiles.files c.read_full-answer.new.files)) _ _ _ _ _ _ _ _ (c.read_full-answer.ensures.reads honest)))
