use Rattle.disk_trait.proofs.Fuses.{writes_through, write_refused}
use Rattle.disk_trait.proofs.fuse.FuseDiskDisk.write.Goals as goal

pub returns-clause-writes : goal.returns-clause-writes
returns-clause-writes g c = λ honest. writes_through _ _ _ _ _ _ _ _ _ _ (c.write.ensures.writes honest)

pub returns-then-not-spend-clause-writes : goal.returns-then-not-spend-clause-writes
returns-then-not-spend-clause-writes g c = λ honest. write_refused (g.D.Disk.disk c.args.self.now.inner) _ _ _ _ _ _ _ _
