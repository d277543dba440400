use Rattle.outside_traits.proofs.Retrying.{Retries}
use Rattle.outside_traits.proofs.standard.write_on.Given as goal

abbrev pub invariant-loop : goal.invariant-loop
invariant-loop g l = Retries (g.W.Write.contents l.fn.writer) (g.W.Write.contents l.writer) l.fn.counts l.counts l.counter
