use Rattle.fetch_plan.proofs.RequestLemmas.{PutsSome}
use Rattle.fetch_plan.proofs.in_flight.put_others.Given as goal

abbrev pub invariant-loop-other : goal.invariant-loop-other
invariant-loop-other l =
    (goal.iterator-loop-other).can_next l.other-iterator × (goal.iterator-loop-other).is_finite l.other-iterator
    × PutsSome l.id l.all.entries l.other-iterator l.fn.requests l.requests
