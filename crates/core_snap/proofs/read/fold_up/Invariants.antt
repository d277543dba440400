use Rattle.std.proofs.Common.{◌≡◌, IsTrue, Some}
use Rattle.merkle_nodes.specs.Roots.{twig_of}
use Rattle.node_set.specs.Paths.{trail_at}
use Rattle.node_set.specs.Walks.{KeepsView}
use Rattle.core_snap.specs.Ways.{IsHonestTop}
use Rattle.core_snap.proofs.FoldLemmas.{HasFolded}
use Rattle.core_snap.proofs.read.fold_up.Given as goal

-- the view stays, and the siblings so far are folded, and those of a view that stands or shows its content are its own
abbrev pub invariant-loop-level : goal.invariant-loop-level
invariant-loop-level g l =
    let v = g.V.View.view l.fn.view in
    record {
      keeps : KeepsView v (g.V.View.view l.view);
      folded : HasFolded l.leaf l.top l.index l.level l.trail;
      shown : IsTrue v.shows → l.trail ≡ trail_at v.content.node 0 l.index l.level;
      honest : IsTrue v.stands → v.content.node 0 l.index ≡ Some (twig_of l.leaf) → IsHonestTop v.content.node l.index l.level l.trail l.top;
    }
