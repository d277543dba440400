use Rattle.std.proofs.Common.{◌≡◌, take, length}
use Rattle.flat_tree.specs.Roots.{full_roots_of}
use Rattle.log_view.specs.Views.{Keeps}
use Rattle.log_change.specs.Calls.{AreGiven}
use Rattle.log_change.proofs.roots.roots_of.Given as goal

-- the view stays, and the roots so far were read
abbrev pub invariant-loop-at : goal.invariant-loop-at
invariant-loop-at g l = record {
  keeps : Keeps (g.V.View.view l.fn.view) (g.V.View.view l.view);
  count : length l.roots ≡ l.at;
  read : AreGiven (g.V.View.view l.fn.view).source (take l.at (full_roots_of l.to)) l.roots;
}
