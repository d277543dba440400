use Rattle.std.proofs.Common.{sym, ◌∙◌}
use Rattle.hypercore_cli.proofs.CommitLaws.{TakesLine-next}
use Rattle.hypercore_cli.proofs.batches.take_line.Goals as goal

pub returns : goal.returns
returns g c =
    TakesLine-next _ _ _ _ c.args.batch.now c.push-2.new.batch c.args.line.now c.in-Ok.field-0 c.push-2.result (sym c.is_full.ensures ∙ c.if-not-is_full.false)
    c.in-Ok.ensures (rw c.clear.ensures at c.push-2.ensures.ok) c.push-2.ensures.err
