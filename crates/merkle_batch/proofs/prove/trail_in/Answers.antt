use Rattle.std.proofs.Common.{◌/◌, ◌^◌, sym, arith, lit<}
use Rattle.merkle_batch.proofs.TrailSteps.{below_root, walked_within, walked_length, sibling_node, sibling_there, HasWalked-step}
use Rattle.merkle_batch.proofs.prove.trail_in.Goals as goal

pub sibling-requires : goal.sibling-requires
sibling-requires c =
    let below = below_root c.args.blocks.now c.args.index c.len.ensures c.root_of_block-depth.ensures.depth c.loop-test.true in
    record { within = walked_within c.loop.invariant c.requires.few c.requires.within below }

pub twig_in-requires : goal.twig_in-requires
twig_in-requires c =
    let below = below_root c.args.blocks.now c.args.index c.len.ensures c.root_of_block-depth.ensures.depth c.loop-test.true in (
      sibling_node c.args.blocks.now c.args.index c.loop.counter,
      sibling_there c.args.blocks.now c.args.index c.loop.counter c.args.nodes.now c.requires.few c.requires.nodes c.requires.within below,
      sym (c.sibling.ensures.sibling c.loop.counter (c.args.index / 2 ^ c.loop.counter) c.loop.invariant.at_node),
    )

pub push-requires : goal.push-requires
push-requires c = (lit< tt, omega (arith, walked_length c.loop.invariant, c.root_of_block-depth.ensures.few))

pub parent-node-requires : goal.parent-node-requires
parent-node-requires c =
    let below = below_root c.args.blocks.now c.args.index c.len.ensures c.root_of_block-depth.ensures.depth c.loop-test.true in
    record { within = walked_within c.loop.invariant c.requires.few c.requires.within below }

pub loop-preserved : goal.loop-preserved
loop-preserved c =
    let offset = c.args.index / 2 ^ c.loop.counter in
    HasWalked-step c.loop.invariant c.requires.nodes c.twig_in.ensures.1 c.twig_in.ensures.2
    (c.sibling.ensures.sibling c.loop.counter offset c.loop.invariant.at_node) c.twig_in.ensures.3
    (c.parent-node.ensures.parent c.loop.counter offset c.loop.invariant.at_node) c.push.ensures
