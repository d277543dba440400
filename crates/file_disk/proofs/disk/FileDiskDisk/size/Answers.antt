use Rattle.file_disk.specs.Files.{areas_of}
use Rattle.file_disk.proofs.Counting.{handle_is, counted_sizes}
use Rattle.file_disk.proofs.disk.FileDiskDisk.size.Goals as goal

pub returns-clause-sizes : goal.returns-clause-sizes
returns-clause-sizes g c = rw (← c.self.view_is) (λ honest. rw (c.count.ensures.same)
    (counted_sizes _ _ (handle_is g.F.CoreFiles.area c.self.inside.handles _ _ (c.self.invariant honest) c.of.ensures)
    (areas_of (g.F.CoreFiles.files c.self.inside.files)) (areas_of (g.F.CoreFiles.files c.len-answer.new.self)) _ _ _ _ _ (c.len-answer.ensures.sizes honest)))
