use Rattle.std.proofs.Common.{IsTrue, Bool, subst, sym}
use Rattle.core_disk.proofs.ChangeWrites.{brought, bring_failed}
use Rattle.core_disk.proofs.writing.store_part.Goals as goal

pub returns-in-Ok-clause-brings : goal.returns-in-Ok-clause-brings
returns-in-Ok-clause-brings g c = λ honest.
    brought _ _ _ (g.D.Disk.disk c.write.new.self) _ _ _ (g.met.D.Disk.may_stay c.args.disk.now honest) (c.in-Ok.ensures.writes honest)
    (c.sync_blocks.ensures.syncs (subst (λ (b : Bool). IsTrue b) (sym c.in-Ok.ensures.counts.honest) honest))

pub returns-in-Err-clause-brings : goal.returns-in-Err-clause-brings
returns-in-Err-clause-brings g c = λ honest. bring_failed _ _ _ _ _ _ (c.in-Err.ensures.writes honest)
