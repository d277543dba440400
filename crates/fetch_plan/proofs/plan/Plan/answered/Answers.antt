use Rattle.std.proofs.Common.{sym}
use Rattle.fetch_plan.proofs.PlanLemmas.{looked_at, answered_plan}
use Rattle.fetch_plan.proofs.plan.Plan.answered.Goals as goal

pub invariant_of-self : goal.invariant_of-self
invariant_of-self c = rw (c.take.ensures.rest) (answered_plan _ _ _ c.self.invariant c.args.id)

pub returns-clause-looked_at : goal.returns-clause-looked_at
returns-clause-looked_at c = rw (sym c.self.view_is, c.take.ensures.index) (looked_at _ _ _ c.self.invariant c.args.id)
