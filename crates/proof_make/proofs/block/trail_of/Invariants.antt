use Rattle.std.proofs.Common.{◌≡◌, IsTrue, length}
use Rattle.std.specs.List.{AllByRecursion}
use Rattle.merkle_nodes.specs.Bundle.{TwigFits}
use Rattle.node_set.specs.Paths.{trail_at}
use Rattle.node_set.specs.Walks.{KeepsView}
use Rattle.proof_make.proofs.block.trail_of.Given as goal

-- the view stays, and the siblings so far are the trail's
abbrev pub invariant-loop-level : goal.invariant-loop-level
invariant-loop-level g l = record {
  keeps : KeepsView (g.V.View.view l.fn.view) (g.V.View.view l.view);
  count : length l.trail ≡ l.level;
  fits : AllByRecursion TwigFits l.trail;
  trail : let v = g.V.View.view l.fn.view in IsTrue v.stands → l.trail ≡ trail_at v.content.node 0 l.want.index l.level;
}
