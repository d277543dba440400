use Rattle.std.proofs.Common.{◌≡◌, ◌-◌, ◌≤◌, ◌++◌}
use Rattle.flat_tree.specs.Subtrees.{numbers_of}
use Rattle.flat_tree.specs.Covers.{cover_of}
use Rattle.flat_tree.proofs.covers.cover.Given as goal

-- the rest of the range has the places to come
abbrev pub invariant-loop-at : goal.invariant-loop-at
invariant-loop-at l = record {
  within : l.at ≤ l.to;
  joined : l.places ++ numbers_of (cover_of l.at l.to) ≡ numbers_of (cover_of l.from l.to);
}

abbrev pub decreases-loop-at : goal.decreases-loop-at
decreases-loop-at l = l.to - l.at
