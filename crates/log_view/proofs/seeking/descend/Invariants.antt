use Rattle.std.proofs.Common.{ℕ, ◌≤◌}
use Rattle.flat_tree.specs.Subtrees.{end_block_of}
use Rattle.log_view.specs.Views.{Keeps}
use Rattle.log_view.specs.Walks.{LeadsTo}
use Rattle.log_view.proofs.seeking.descend.Given as goal

-- what leads to the first node leads to this one
abbrev pub invariant-loop-level : goal.invariant-loop-level
invariant-loop-level g l =
    let s = (g.V.View.view l.fn.view).source in
    record {
      keeps : Keeps (g.V.View.view l.fn.view) (g.V.View.view l.view);
      within : end_block_of l.level l.index ≤ s.content.length;
      leads : (byte levels : ℕ) → LeadsTo s byte levels l.depth l.offset l.past → (steps : ℕ) × LeadsTo s byte steps l.level l.index l.rest;
    }

abbrev pub decreases-loop-level : goal.decreases-loop-level
decreases-loop-level g l = l.level
