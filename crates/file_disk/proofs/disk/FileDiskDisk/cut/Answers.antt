use Rattle.file_disk.specs.Files.{areas_of}
use Rattle.file_disk.proofs.Counting.{handle_is, counted_cuts}
use Rattle.file_disk.proofs.disk.FileDiskDisk.cut.Goals as goal

pub returns-clause-cuts : goal.returns-clause-cuts
returns-clause-cuts g c = rw (← c.self.view_is) (λ honest. rw (c.count.ensures.same)
    (counted_cuts _ _ (handle_is g.F.CoreFiles.area c.self.inside.handles _ _ (c.self.invariant honest) c.of.ensures)
    (areas_of (g.F.CoreFiles.files c.self.inside.files)) (areas_of (g.F.CoreFiles.files c.set_len-answer.new.self)) _ _ _ _ _ _ (c.set_len-answer.ensures.cuts honest)))
