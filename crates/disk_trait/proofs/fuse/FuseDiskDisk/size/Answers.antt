use Rattle.disk_trait.proofs.Fuses.{sizes_through}
use Rattle.disk_trait.proofs.fuse.FuseDiskDisk.size.Goals as goal

pub returns-clause-sizes : goal.returns-clause-sizes
returns-clause-sizes g c = λ honest. sizes_through _ _ _ _ _ _ _ _ (c.size.ensures.sizes honest)
