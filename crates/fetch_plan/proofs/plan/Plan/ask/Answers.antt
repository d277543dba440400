use Rattle.fetch_plan.proofs.PlanLemmas.{next_id}
use Rattle.fetch_plan.proofs.plan.Plan.ask.Goals as goal

pub put-requires-clause-new : goal.put-requires-clause-new
put-requires-clause-new c = next_id _ _ _ c.self.invariant
