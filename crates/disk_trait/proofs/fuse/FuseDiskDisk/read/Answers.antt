use Rattle.disk_trait.proofs.Fuses.{reads_through}
use Rattle.disk_trait.proofs.fuse.FuseDiskDisk.read.Goals as goal

pub returns-clause-reads : goal.returns-clause-reads
returns-clause-reads g c = λ honest. reads_through _ _ _ _ _ _ _ _ _ _ _ (c.read.ensures.reads honest)
