use Rattle.disk_trait.proofs.Fuses.{cuts_through, cut_refused}
use Rattle.disk_trait.proofs.fuse.FuseDiskDisk.cut.Goals as goal

pub returns-clause-cuts : goal.returns-clause-cuts
returns-clause-cuts g c = λ honest. cuts_through _ _ _ _ _ _ _ _ _ (c.cut.ensures.cuts honest)

pub returns-then-not-spend-clause-cuts : goal.returns-then-not-spend-clause-cuts
returns-then-not-spend-clause-cuts g c = λ honest. cut_refused (g.D.Disk.disk c.args.self.now.inner) _ _ _ _ _ _ _
