use Rattle.std.proofs.Common.{◌≡◌, ◌≤◌, ◌+◌, ◌-◌, ◌++◌, length, take}
use Rattle.std.specs.Prelude.{vec_capacity}
use Rattle.core_state.proofs.append.push_copies.Given as goal

-- the blocks so far were added, and there is room for the rest
abbrev pub invariant-loop-place : goal.invariant-loop-place
invariant-loop-place l =
    record { added : l.kept.items ≡ l.fn.kept.items ++ take l.place l.blocks; room : length l.kept.items + (length l.blocks - l.place) ≤ vec_capacity l.kept }
