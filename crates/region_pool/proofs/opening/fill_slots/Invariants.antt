use Rattle.std.proofs.Common.{◌≡◌, Some, map}
use Rattle.region_pool.proofs.opening.fill_slots.Given as goal

abbrev pub invariant-loop-region : goal.invariant-loop-region
invariant-loop-region g l = l.slots.items ≡ map Some l.yielded
