use Rattle.file_disk.specs.Files.{areas_of}
use Rattle.file_disk.proofs.Counting.{handle_is, counted_syncs}
use Rattle.file_disk.proofs.disk.FileDiskDisk.sync.Goals as goal

pub returns-clause-syncs : goal.returns-clause-syncs
returns-clause-syncs g c = rw (← c.self.view_is) (λ honest. rw (c.count.ensures.same)
    (counted_syncs _ _ (handle_is g.F.CoreFiles.area c.self.inside.handles _ _ (c.self.invariant honest) c.of.ensures)
    (areas_of (g.F.CoreFiles.files c.self.inside.files)) (areas_of (g.F.CoreFiles.files c.sync_data-answer.new.self)) _ _ _ _ _ (c.sync_data-answer.ensures.syncs honest)))
