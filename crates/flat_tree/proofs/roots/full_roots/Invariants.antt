use Rattle.std.proofs.Common.{◌≤◌}
use Rattle.flat_tree.proofs.RootLemmas.{RootsLeft}
use Rattle.flat_tree.proofs.roots.full_roots.Given as goal

-- what is left has the roots to come
abbrev pub invariant-loop-left : goal.invariant-loop-left
invariant-loop-left l = (l.left ≤ l.blocks) × RootsLeft l.blocks l.left l.places

abbrev pub decreases-loop-left : goal.decreases-loop-left
decreases-loop-left l = l.left
