use Rattle.node_set.specs.Contents.{held}
use Rattle.node_set.specs.Walks.{KeepsView}
use Rattle.proof_check.proofs.HeldLemmas.{IsSearched}
use Rattle.proof_check.proofs.held.first_held.Given as goal

-- the view stays, and no level so far is over a held block
abbrev pub invariant-loop-level : goal.invariant-loop-level
invariant-loop-level g l = record {
  view : KeepsView (g.V.View.view l.fn.view) (g.V.View.view l.view);
  searched : IsSearched l.base (held (g.V.View.view l.fn.view).content) l.low l.level;
}
