use Rattle.merkle_nodes.proofs.Paths.{HasClimbed}
use Rattle.merkle_nodes.proofs.fold.fold_twigs.Given as goal

abbrev pub invariant-loop-sibling : goal.invariant-loop-sibling
invariant-loop-sibling l = HasClimbed l.offset l.fn.node l.trail l.above l.top l.sibling-index
