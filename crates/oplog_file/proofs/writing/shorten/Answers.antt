use Rattle.std.proofs.Common.{IsTrue, Bool, subst, sym, arith}
use Rattle.oplog_file.proofs.WriteLaws.{shortened, short_enough}
use Rattle.oplog_file.proofs.writing.shorten.Goals as goal

pub returns-then-size-to-clause-shortens : goal.returns-then-size-to-clause-shortens
returns-then-size-to-clause-shortens g c = λ honest. short_enough c.args.to _ _ _ (omega (arith, c.requires.size honest, c.if-size-to.true)) (c.sync.ensures.syncs honest)

pub returns-in-Ok-clause-shortens : goal.returns-in-Ok-clause-shortens
returns-in-Ok-clause-shortens g c = λ honest.
    shortened _ _ (g.D.Disk.disk c.cut.new.self) _ _ _ (c.in-Ok.ensures.cuts honest) (c.sync-in-Ok.ensures.syncs (subst (λ (b : Bool). IsTrue b) (sym c.in-Ok.ensures.counts.honest) honest))
