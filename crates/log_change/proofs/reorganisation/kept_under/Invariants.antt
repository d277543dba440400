use Rattle.log_view.specs.Views.{Keeps}
use Rattle.log_change.proofs.KeptRoots.{HasKept}
use Rattle.log_change.proofs.reorganisation.kept_under.Given as goal

-- the view stays, and the roots so far are stored as they are
abbrev pub invariant-loop-root : goal.invariant-loop-root
invariant-loop-root g l = record {
  keeps : Keeps (g.V.View.view l.fn.view) (g.V.View.view l.view);
  kept : HasKept (g.V.View.view l.fn.view).source l.length l.roots l.root-index l.kept;
}
