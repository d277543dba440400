use Rattle.std.proofs.Common.{ap}
use Rattle.region_pool.proofs.pool.Pool.give.Goals as goal

pub free_place-requires-clause-carried : goal.free_place-requires-clause-carried
free_place-requires-clause-carried g c = (c.args.held.value, ap (λ me. me.1) c.put_in.ensures.me)
