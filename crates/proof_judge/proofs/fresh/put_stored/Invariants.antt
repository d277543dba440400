use Rattle.std.proofs.Common.{◌≡◌, take, vec_capacity}
use Rattle.node_set.specs.Contents.{held}
use Rattle.proof_judge.specs.Coming.{IsToStore, Takes}
use Rattle.proof_judge.proofs.fresh.put_stored.Given as goal

-- those of the nodes so far
abbrev pub invariant-loop-node : goal.invariant-loop-node
invariant-loop-node g l =
    let m = (g.V.View.view l.view).source.content in
    (takes : Takes (IsToStore m.length (held m)) (take l.node-index l.laid) l.nodes.items) × (vec_capacity l.nodes ≡ vec_capacity l.fn.nodes)
