use Rattle.std.proofs.Common.{◌≡◌, ◌<◌, ◌+◌, ◌++◌, ◌∷◌, [], length, ◌/◌, ◌^◌, ap, sym, ◌∙◌, arith, subst, List}
use Rattle.merkle_nodes.specs.declared.node.Node.{Node}
use Rattle.proof_check.proofs.Folding.{beside_is}
use Rattle.proof_judge.specs.Meetings.{part_of}
use Rattle.proof_judge.proofs.PartLemmas.{IsFolded, folded_start, folded_next, above_small}
use Rattle.proof_judge.proofs.part.fold_up.Goals as goal

pub loop-level-init : goal.loop-level-init
loop-level-init c =
    subst (λ (way : List Node). IsFolded (part_of c.args.part.now) 0 c.numbered-node.result way) (sym c.clear.ensures)
    (folded_start (part_of c.args.part.now) c.numbered-node.result
    (c.numbered-node.ensures ∙ ap (λ n. record { index = n; size = c.args.part.now.twig.size; hash = c.args.part.now.twig.hash }) c.number_above.ensures.number)
    c.requires.part.1.twig.size)

pub sibling-requires : goal.sibling-requires
sibling-requires c =
    let part = c.args.part.now in
    let at = ap (λ (n : Node). n.index) c.loop-level.invariant.node_is in
    let few = above_small c.requires.part.0 part.depth part.offset c.loop-level.level c.requires.part.1.within c.requires.part.1.blocks (omega (arith, c.requires.few, c.loop-level-test.true)) in
    record { within = omega (arith, at, few) }

pub parent_over-node-requires-clause-within : goal.parent_over-node-requires-clause-within
parent_over-node-requires-clause-within c =
    let part = c.args.part.now in
    let at = ap (λ (n : Node). n.index) c.loop-level.invariant.node_is in
    let few = above_small c.requires.part.0 part.depth part.offset c.loop-level.level c.requires.part.1.within c.requires.part.1.blocks (omega (arith, c.requires.few, c.loop-level-test.true)) in
    omega (arith, at, few)

pub parent_over-node-requires-clause-near : goal.parent_over-node-requires-clause-near
parent_over-node-requires-clause-near c =
    let part = c.args.part.now in
    let at = ap (λ (n : Node). n.index) c.loop-level.invariant.node_is in
    let few = above_small c.requires.part.0 part.depth part.offset c.loop-level.level c.requires.part.1.within c.requires.part.1.blocks (omega (arith, c.requires.few, c.loop-level-test.true)) in
    omega (arith, at, few, ap (λ (n : Node). n.index) c.numbered-beside.ensures, c.sibling.ensures.fits)

pub loop-level-preserved : goal.loop-level-preserved
loop-level-preserved c =
    let part = part_of c.args.part.now in
    let level = c.loop-level.level in
    let depth = part.depth + level in
    let within : level < length part.trail = omega (arith, c.loop-level-test.true, c.requires.trail) in
    let at = ap (λ (n : Node). n.index) c.loop-level.invariant.node_is in
    let beside = beside_is part.trail level _ depth _ _ _ within c.requires.part.1.trail.twigs (c.sibling.ensures.sibling depth (part.offset / 2 ^ level) at) c.numbered-beside.ensures in
    let added : c.push-in-loop-level.new.self ≡ (c.loop-level.way ++ c.loop-level.node ∷ []) ++ c.numbered-beside.result ∷ [] =
    c.push-in-loop-level.ensures ∙ ap (λ (ns : List Node). ns ++ c.numbered-beside.result ∷ []) c.push.ensures in
    folded_next part level _ _ _ _ _ within beside.0 beside.1 (c.parent_over-node.ensures.index depth at) c.parent_over-node.ensures.twig
    c.parent_over-node.ensures.size added c.loop-level.invariant
