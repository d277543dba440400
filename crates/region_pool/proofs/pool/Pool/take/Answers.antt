use Rattle.region_pool.proofs.Finding.{FindsHeld-step}
use Rattle.region_pool.proofs.pool.Pool.take.Goals as goal

pub loop-place-preserved : goal.loop-place-preserved
loop-place-preserved g c = FindsHeld-step _ _ _ _ c.loop-place.invariant c.in_default.ensures.none
