use Rattle.fetch_plan.proofs.RequestLemmas.{next_absent, skips}
use Rattle.fetch_plan.proofs.in_flight.put_others.Goals as goal

pub put_last-requires-clause-new : goal.put_last-requires-clause-new
put_last-requires-clause-new c = next_absent _ _ _ _ _ _ _ c.in-Some.ensures.steps c.loop-other.invariant.2

pub loop-other-preserved : goal.loop-other-preserved
loop-other-preserved c = (tt, tt, skips _ _ _ _ _ _ _ c.in-Some.ensures.steps c.loop-other.invariant.2 c.if-id-other.false)
