use Rattle.std.proofs.Common.{◌≡◌, ◌*◌, ◌≤◌, Some, IsTrue}
use Rattle.flat_tree.specs.declared.limits.TheConstants.{MAX_CORE_BYTES}
use Rattle.node_set.specs.Whole.{IsClosed}
use Rattle.log_view.specs.Views.{Keeps}
use Rattle.log_view.specs.Walks.{AreLeft}
use Rattle.proof_form.specs.Proofs.{Proof}
use Rattle.proof_check.specs.Meets.{seen}
use Rattle.proof_judge.specs.Seeking.{with_way}
use Rattle.proof_judge.proofs.seek.left_of_path.Given as goal

-- the bytes so far are those of the levels so far
abbrev pub invariant-loop-level : goal.invariant-loop-level
invariant-loop-level g l = let s = (g.V.View.view l.fn.view).source in record {
  keeps : Keeps (g.V.View.view l.fn.view) (g.V.View.view l.view);
  left : (p : Proof) → p.block ≡ Some (seen l.block) → (IsTrue s.shows → IsClosed s.content.length s.content.block s.content.node)
      → AreLeft (with_way p l.way s) l.block.index l.level l.bytes;
  most : l.bytes ≤ l.level * MAX_CORE_BYTES;
}
