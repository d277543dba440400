use Rattle.std.proofs.Common.{arith}
use Rattle.fetch_plan.specs.Plan.{plan_of}
use Rattle.fetch_plan.proofs.RunLemmas.{asked_and_missing, all_asked, stays_few}
use Rattle.fetch_plan.proofs.laws.a_fetch_asks_for_what_is_missing.Goals as goal

pub returns-clause-asked : goal.returns-clause-asked
returns-clause-asked c = λ held from to steps may. asked_and_missing held (plan_of from to) steps may

pub returns-clause-done : goal.returns-clause-done
returns-clause-done c = λ held from to steps may done. all_asked held (plan_of from to) steps may done.0

pub returns-clause-few : goal.returns-clause-few
returns-clause-few c = λ held from to steps may. stays_few held (plan_of from to) steps may (omega arith)
