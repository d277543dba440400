use Rattle.std.proofs.Common.{◌∙◌}
use Rattle.node_set.proofs.PageLemmas.{places_next}
use Rattle.node_set.proofs.nodes.Nodes.reserve_all.Goals as goal

pub loop-node-preserved : goal.loop-node-preserved
loop-node-preserved c =
    let so_far = c.loop-node.invariant in
    let made = c.in-Ok.ensures in (
      places_next c.loop-node.self _ c.args.nodes.now _ _ c.loop-node-test.true so_far.0 made.kept made.place,
      λ number there. made.kept number (so_far.1 number there),
      made.same ∙ so_far.2,
    )
