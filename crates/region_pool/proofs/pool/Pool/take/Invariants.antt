use Rattle.region_pool.specs.Seats.{FindsHeld}
use Rattle.region_pool.proofs.pool.Pool.take.Given as goal

abbrev pub invariant-loop-place : goal.invariant-loop-place
invariant-loop-place g l = FindsHeld l.place l.fn.seat l.seat
