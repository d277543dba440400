use Rattle.core_forks.specs.Truncations.{HoldsNone}
use Rattle.core_forks.proofs.clearing.commit_of.Given as goal

-- none is held so far
abbrev pub invariant-loop-index : goal.invariant-loop-index
invariant-loop-index g l = HoldsNone l.from l.index (g.V.View.view l.view).content
