use Rattle.std.proofs.Common.{sym}
use Rattle.fetch_plan.proofs.RequestLemmas.{without-absent}
use Rattle.fetch_plan.proofs.in_flight.InFlight.take.Goals as goal

pub returns-in_err-index-clause-rest : goal.returns-in_err-index-clause-rest
returns-in_err-index-clause-rest c = rw (sym c.self.view_is) (without-absent c.args.id _ (sym c.in_err-index.ensures.value))
