use Rattle.std.proofs.Common.{IsTrue, Bool, subst, sym, ap, ◌∙◌}
use Rattle.oplog_file.specs.Storing.{trimmed_to}
use Rattle.oplog_file.proofs.WriteLaws.{shorten_asked, shorten_none, shorten_there}
use Rattle.oplog_file.proofs.writing.trim.Goals as goal

pub returns-in-Ok-clause-trims : goal.returns-in-Ok-clause-trims
returns-in-Ok-clause-trims g c = λ honest.
    let sizes = c.in-Ok.ensures.sizes honest in
    shorten_there _ _ _ _ _ (c.trimmed.ensures ∙ ap (trimmed_to c.args.epoch c.args.used) sizes.ok)
    (shorten_asked _ _ (g.D.Disk.disk c.size_of.new.disk) _ _ sizes.keeps (c.shorten.ensures.shortens (subst (λ (b : Bool). IsTrue b) (sym c.in-Ok.ensures.calls.honest) honest)))

pub returns-in-Err-clause-trims : goal.returns-in-Err-clause-trims
returns-in-Err-clause-trims g c = λ honest. shorten_none _ _ _ _ (c.in-Err.ensures.sizes honest).keeps
