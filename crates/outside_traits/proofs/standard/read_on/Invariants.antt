use Rattle.outside_traits.proofs.Retrying.{Retries}
use Rattle.outside_traits.proofs.standard.read_on.Given as goal

abbrev pub invariant-loop : goal.invariant-loop
invariant-loop g l = Retries (g.R.Read.remaining l.fn.reader) (g.R.Read.remaining l.reader) l.fn.counts l.counts l.counter
