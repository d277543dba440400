use Rattle.std.proofs.Common.{◌<◌, length, ◌/◌, ◌^◌, ap, arith}
use Rattle.merkle_nodes.specs.declared.node.Node.{Node}
use Rattle.proof_check.proofs.Folding.{path_number, folded_start, folded_step, beside_is}
use Rattle.proof_check.proofs.path.fold_up.Goals as goal

pub loop-level-init : goal.loop-level-init
loop-level-init c = folded_start _ _ _ _ _ c.leaf-node.ensures (omega (arith, c.requires.block)) c.requires.order

pub sibling-requires : goal.sibling-requires
sibling-requires c =
    let at = ap (λ (n : Node). n.index) c.loop-level.invariant.node_is in
    let few = path_number c.args.index c.loop-level.level (omega (arith, c.requires.fits)) (omega (arith, c.requires.fits, c.loop-level-test.true)) in
    omega (arith, at, few)

pub parent_over-node-requires-clause-within : goal.parent_over-node-requires-clause-within
parent_over-node-requires-clause-within c =
    let at = ap (λ (n : Node). n.index) c.loop-level.invariant.node_is in
    let few = path_number c.args.index c.loop-level.level (omega (arith, c.requires.fits)) (omega (arith, c.requires.fits, c.loop-level-test.true)) in
    omega (arith, at, few)

pub parent_over-node-requires-clause-near : goal.parent_over-node-requires-clause-near
parent_over-node-requires-clause-near c =
    let at = ap (λ (n : Node). n.index) c.loop-level.invariant.node_is in
    let few = path_number c.args.index c.loop-level.level (omega (arith, c.requires.fits)) (omega (arith, c.requires.fits, c.loop-level-test.true)) in
    omega (arith, at, few, ap (λ (n : Node). n.index) c.numbered-beside.ensures, c.sibling.ensures.fits)

pub loop-level-preserved : goal.loop-level-preserved
loop-level-preserved c =
    let level = c.loop-level.level in
    let within : level < length c.args.trail.now = omega (arith, c.loop-level-test.true, c.requires.trail) in
    let at = ap (λ (n : Node). n.index) c.loop-level.invariant.node_is in
    let beside = beside_is c.args.trail.now level _ level _ _ _ within c.requires.twigs (c.sibling.ensures.sibling level (c.args.index / 2 ^ level) at) c.numbered-beside.ensures in
    folded_step _ _ _ level _ _ _ _ _ _ _ within beside.0 beside.1 (c.parent_over-node.ensures.index level at) c.parent_over-node.ensures.twig
    c.put.ensures.puts c.put-in-loop-level.ensures.puts c.put-in-loop-level.ensures.order c.put.ensures.few c.put-in-loop-level.ensures.few c.loop-level.invariant
