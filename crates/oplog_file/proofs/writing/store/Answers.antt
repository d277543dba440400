use Rattle.std.proofs.Common.{IsTrue, Bool, subst, sym}
use Rattle.oplog_file.proofs.WriteLaws.{stored}
use Rattle.oplog_file.proofs.writing.store.Goals as goal

pub returns-in-Ok-clause-stores : goal.returns-in-Ok-clause-stores
returns-in-Ok-clause-stores g c = λ honest.
    stored _ _ _ (g.D.Disk.disk c.write.new.self) _ _ _ (c.in-Ok.ensures.writes honest) (c.sync.ensures.syncs (subst (λ (b : Bool). IsTrue b) (sym c.in-Ok.ensures.counts.honest) honest))
