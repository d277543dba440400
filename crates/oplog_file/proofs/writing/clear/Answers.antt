use Rattle.std.proofs.Common.{IsTrue, Bool, subst, sym}
use Rattle.oplog_file.proofs.WriteLaws.{shorten_asked, shorten_none}
use Rattle.oplog_file.proofs.writing.clear.Goals as goal

pub returns-in-Ok-clause-shortens : goal.returns-in-Ok-clause-shortens
returns-in-Ok-clause-shortens g c = λ honest.
    shorten_asked 0 _ (g.D.Disk.disk c.size_of.new.disk) _ _ (c.in-Ok.ensures.sizes honest).keeps (c.shorten.ensures.shortens (subst (λ (b : Bool). IsTrue b) (sym c.in-Ok.ensures.calls.honest) honest))

pub returns-in-Err-clause-shortens : goal.returns-in-Err-clause-shortens
returns-in-Err-clause-shortens g c = λ honest. shorten_none 0 _ _ _ (c.in-Err.ensures.sizes honest).keeps
