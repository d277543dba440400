use Rattle.disk_trait.proofs.Fuses.{syncs_through}
use Rattle.disk_trait.proofs.fuse.FuseDiskDisk.sync.Goals as goal

pub returns-clause-syncs : goal.returns-clause-syncs
returns-clause-syncs g c = λ honest. syncs_through _ _ _ _ _ _ _ _ (c.sync.ensures.syncs honest)
