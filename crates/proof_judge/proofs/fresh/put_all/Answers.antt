use Rattle.std.proofs.Common.{◌∙◌}
use Rattle.proof_judge.proofs.Taken.{front-next}
use Rattle.proof_judge.proofs.fresh.put_all.Goals as goal

pub loop-node-preserved : goal.loop-node-preserved
loop-node-preserved c =
    let so_far = c.loop-node.invariant in
    (front-next _ _ _ c.args.more.now c.loop-node.node-index _ c.loop-node-test.true so_far.0 c.push_reserved.ensures.items, c.push_reserved.ensures.capacity ∙ so_far.1)
