use Rattle.flat_tree.specs.Roots.{full_roots_of}
use Rattle.node_set.specs.Closure.{in_closure}
use Rattle.node_set.specs.Contents.{held}
use Rattle.node_set.specs.Walks.{KeepsView}
use Rattle.core_forks.proofs.RootLists.{HasRead}
use Rattle.core_forks.proofs.truncation.roots_of.Given as goal

-- the view stays, and the roots so far are stored
abbrev pub invariant-loop-place : goal.invariant-loop-place
invariant-loop-place g l =
    let v = g.V.View.view l.fn.view in
    record {
      keeps : KeepsView v (g.V.View.view l.view);
      read : HasRead v (in_closure v.content.length (held v.content)) (full_roots_of l.to) l.place l.nodes;
    }
