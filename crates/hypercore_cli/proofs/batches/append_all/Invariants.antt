use Rattle.hypercore_cli.proofs.AppendLaws.{Appends}
use Rattle.hypercore_cli.proofs.batches.append_all.Given as goal

-- the batches that the lines so far close were committed
abbrev pub invariant-loop : goal.invariant-loop
invariant-loop g l = Appends g.D.Disk.disk g.A.Verifier.accepts (g.I.Source.source l.fn.input) (g.I.Source.source l.input)
    l.fn.core l.core l.lines l.batch l.counter
