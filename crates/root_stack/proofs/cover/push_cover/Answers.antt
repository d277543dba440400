use Rattle.std.proofs.Common.{◌∙◌, [], map, Some, refl, ap, arith}
use Rattle.flat_tree.specs.Covers.{cover_of}
use Rattle.flat_tree.proofs.CoverLemmas.{tile-cover}
use Rattle.merkle_nodes.specs.declared.node.Node.{Node}
use Rattle.merkle_nodes.specs.Roots.{twig_of}
use Rattle.merkle_nodes.specs.Joined.{joined, with_parts}
use Rattle.root_stack.proofs.Covering.{tree, next_is, next_fits, IsPushing-start, IsPushing-step, Grows-all, adds-all}
use Rattle.root_stack.proofs.TwigValues.{joined-twigs, joined-roots}
use Rattle.root_stack.proofs.cover.push_cover.Goals as goal

pub loop-place-init : goal.loop-place-init
loop-place-init g c = record {
  room = refl;
  pushing = IsPushing-start c.args.start c.args.end c.args.twigs.now c.args.roots.now _ c.requires.ordered c.requires.shape c.requires.bytes;
}

pub push-requires-clause-next : goal.push-requires-clause-next
push-requires-clause-next g c =
    let so_far = c.loop-place.invariant.pushing in
    let places = c.as_slice-numbers.ensures.items ∙ c.cover-places.ensures.numbers in (
      tree so_far c.requires.count c.loop-place-test.true,
      next_is so_far c.requires.count c.loop-place-test.true _ c.requires.within places (ap (λ (n : Node). n.index) c.numbered.ensures),
    )

pub push-requires-clause-bytes : goal.push-requires-clause-bytes
push-requires-clause-bytes g c =
    next_fits c.loop-place.invariant.pushing c.requires.count c.loop-place-test.true _ (ap (λ (n : Node). n.size) c.numbered.ensures) c.requires.bytes

pub loop-place-preserved : goal.loop-place-preserved
loop-place-preserved g c =
    let so_far = c.loop-place.invariant.pushing in
    let at = tree so_far c.requires.count c.loop-place-test.true in
    let places = c.as_slice-numbers.ensures.items ∙ c.cover-places.ensures.numbers in
    let next = next_is so_far c.requires.count c.loop-place-test.true _ c.requires.within places (ap (λ (n : Node). n.index) c.numbered.ensures) in
    record {
      room = c.push.ensures.room ∙ c.loop-place.invariant.room;
      pushing = IsPushing-step so_far c.requires.count c.loop-place-test.true c.numbered.result _ (ap twig_of c.numbered.ensures) (c.push.ensures.grows at next)
          (λ values trees. c.push.ensures.adds values trees at next);
    }

pub returns-clause-grows : goal.returns-clause-grows
returns-clause-grows g c = Grows-all c.loop-place.invariant.pushing c.requires.count (omega (arith, c.loop-place-test.false))

pub returns-clause-adds : goal.returns-clause-adds
returns-clause-adds g c = adds-all c.loop-place.invariant.pushing c.requires.count (omega (arith, c.loop-place-test.false))

pub returns-clause-joined : goal.returns-clause-joined
returns-clause-joined g c known are none =
    let trees = cover_of c.args.start c.args.end in
    let tile = tile-cover c.args.start c.args.end c.requires.ordered in
    let value = joined (with_parts c.args.start known trees c.args.twigs.now) in
    let twigs = joined-twigs known c.args.start c.args.end trees c.args.twigs.now tile c.requires.count in
    let roots = joined-roots known c.args.start c.args.end trees c.args.twigs.now tile c.requires.count c.args.roots.now are in
    adds-all c.loop-place.invariant.pushing c.requires.count (omega (arith, c.loop-place-test.false)) value [] twigs
    (record { at_roots = roots; at_made = ap (map Some) none })
