use Rattle.std.proofs.Common.{IsTrue, Bool, subst, sym}
use Rattle.core_disk.proofs.ChangeWrites.{change_refused, change_failed, change_made}
use Rattle.core_disk.proofs.writing.write_change.Goals as goal

pub returns-then-not-fits-clause-writes : goal.returns-then-not-fits-clause-writes
returns-then-not-fits-clause-writes g c = λ whole honest behind. change_refused whole _ _ _ _

pub returns-in-Ok-clause-writes : goal.returns-in-Ok-clause-writes
returns-in-Ok-clause-writes g c = λ whole honest behind.
    change_made whole _ _ _ _ (g.D.Disk.disk c.bring.new.disk) _ _ _ c.spell-len.ensures.spelled (c.in-Ok.ensures.brings honest)
    (c.append.ensures.adds whole (subst (λ (b : Bool). IsTrue b) (sym c.in-Ok.ensures.calls.honest) honest) behind)

pub returns-in-Err-clause-writes : goal.returns-in-Err-clause-writes
returns-in-Err-clause-writes g c = λ whole honest behind. change_failed whole _ _ _ _ _ _ (c.in-Err.ensures.brings honest)
