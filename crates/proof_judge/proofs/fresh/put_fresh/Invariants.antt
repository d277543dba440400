use Rattle.std.proofs.Common.{◌≡◌, take, vec_capacity}
use Rattle.log_view.specs.Views.{Keeps}
use Rattle.proof_judge.specs.Coming.{ComesIn, Takes}
use Rattle.proof_judge.proofs.fresh.put_fresh.Given as goal

-- of the nodes so far those are taken that come in
abbrev pub invariant-loop-node : goal.invariant-loop-node
invariant-loop-node g l = record {
  keeps : Keeps (g.V.View.view l.fn.view) (g.V.View.view l.view);
  takes : Takes (ComesIn (g.V.View.view l.fn.view).source l.length) (take l.node-index l.nodes) l.fresh.items;
  capacity : vec_capacity l.fresh ≡ vec_capacity l.fn.fresh;
}
