use Rattle.merkle_nodes.specs.Tree.{leaf_of}
use Rattle.proof_check.proofs.Folding.{IsFolded}
use Rattle.proof_check.proofs.path.fold_up.Given as goal

abbrev pub invariant-loop-level : goal.invariant-loop-level
invariant-loop-level l = IsFolded l.index (leaf_of l.block) l.trail l.level l.node l.fn.fresh l.fresh
