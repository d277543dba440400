use Rattle.std.proofs.Common.{◌*◌, ◌≤◌}
use Rattle.flat_tree.specs.declared.limits.TheConstants.{MAX_CORE_BYTES}
use Rattle.log_view.specs.Views.{Keeps}
use Rattle.log_view.specs.Walks.{AreLeft}
use Rattle.log_view.proofs.walk.left_of_path.Given as goal

-- the bytes so far are those of the levels so far
abbrev pub invariant-loop-level : goal.invariant-loop-level
invariant-loop-level g l = record {
  keeps : Keeps (g.V.View.view l.fn.view) (g.V.View.view l.view);
  left : AreLeft (g.V.View.view l.fn.view).source l.index l.level l.bytes;
  most : l.bytes ≤ l.level * MAX_CORE_BYTES;
}
