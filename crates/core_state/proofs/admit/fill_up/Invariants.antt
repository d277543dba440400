use Rattle.std.proofs.Common.{◌≡◌, ◌-◌, ◌++◌, [], length, replicate}
use Rattle.std.specs.Prelude.{vec_capacity}
use Rattle.core_state.proofs.admit.fill_up.Given as goal

-- the empty blocks so far were added, in the room that is there
abbrev pub invariant-loop : goal.invariant-loop
invariant-loop l = (l.blocks.items ≡ l.fn.blocks.items ++ replicate (l.counter - length l.fn.blocks.items) []) × (vec_capacity l.blocks ≡ vec_capacity l.fn.blocks)
