use Rattle.std.proofs.Common.{refl, sym}
use Rattle.file_disk.proofs.Fronts.{front_is, reads_front}
use Rattle.file_disk.proofs.memory.MemFilesCoreFiles.read_at.Goals as goal

pub returns-in-Ok-read-clause-reads : goal.returns-in-Ok-read-clause-reads
returns-in-Ok-read-clause-reads c =
    reads_front _ _ c.args.self.now.disk c.read.new.self _ _ _ _ _ _ _ _ _ _ (front_is _ _ _ _ (sym c.in-Ok.ensures.front)) (c.in-Ok-read.ensures.reads refl)
