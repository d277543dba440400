use Rattle.std.proofs.Common.{◌≡◌, map}
use Rattle.core_shelf.proofs.memory.ids_of.Given as goal

-- the ids so far
abbrev pub invariant-loop-id : goal.invariant-loop-id
invariant-loop-id l = l.ids.items ≡ map (λ id. id.now) l.yielded
