use Rattle.std.proofs.Common.{◌≡◌, ◌≤◌, ◌<◌, ◌+◌, ℕ, length, get_or, None, if◌then◌else◌}
use Rattle.flat_tree.specs.Subtrees.{number}
use Rattle.bit_field.specs.Places.{has}
use Rattle.node_set.specs.Closure.{in_closure}
use Rattle.node_set.proofs.page.prune_twigs.Given as goal

-- the places so far have what is to be stored alone, and the others are as they were
abbrev pub invariant-loop-place : goal.invariant-loop-place
invariant-loop-place l =
    (length l.twigs ≡ length l.fn.twigs)
    × ((place : ℕ) → l.place ≤ place → get_or l.twigs place None ≡ get_or l.fn.twigs place None)
    × ((depth offset place : ℕ) → place < l.place → number depth offset ≡ l.first + place
    → get_or l.twigs place None
    ≡ (if in_closure l.blocks (has l.held) depth offset then get_or l.fn.twigs place None else None))
