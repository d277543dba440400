use Rattle.std.proofs.Common.{refl, ◌∙◌}
use Rattle.node_set.specs.Nodes.{with_nodes}
use Rattle.node_set.proofs.NodeMaps.{with_nodes-next}
use Rattle.node_set.proofs.PageLemmas.{place_of}
use Rattle.node_set.proofs.nodes.Nodes.insert_all.Goals as goal

pub loop-node-init : goal.loop-node-init
unfolding with_nodes
loop-node-init c = (refl, λ number. refl)

pub insert-requires : goal.insert-requires
insert-requires c = record {
  place = place_of c.args.self.now c.loop-node.self c.args.nodes.now _ _ c.loop-node-test.true c.requires.places c.loop-node.invariant.1;
}

pub loop-node-preserved : goal.loop-node-preserved
loop-node-preserved c =
    let so_far = c.loop-node.invariant in (
      with_nodes-next c.args.nodes.now _ _ _ _ _ c.loop-node-test.true so_far.0 c.insert.ensures.values,
      λ number. c.insert.ensures.kept number ∙ so_far.1 number,
    )
