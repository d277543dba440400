use Rattle.std.proofs.Common.{◌+◌, ◌∙◌, arith, lit<}
use Rattle.flat_tree.proofs.NumberLemmas.{number_below}
use Rattle.root_stack.proofs.Levels.{depth_up, offset_up}
use Rattle.root_stack.proofs.Climb.{IsUnderWay-start, some_root, pair_below, IsUnderWay-up, room_at_top, Grows-top, AddsTree-top}
use Rattle.root_stack.proofs.stack.push.Goals as goal

pub offset-requires : goal.offset-requires
offset-requires g c =
    let tree = c.requires.next.0 in
    let next = c.requires.next.1 in
    record { within = omega (arith, next.index, next.within, number_below tree.depth tree.offset) }

pub loop-init : goal.loop-init
loop-init g c = record {
  room = c.add.ensures.room;
  climb = λ tree next. IsUnderWay-start next c.requires.bytes c.add.ensures.nodes;
}

pub pop-left-requires : goal.pop-left-requires
pop-left-requires g c =
    let (tree, next) = c.requires.next in
    let is = c.offset.ensures.offset tree.depth tree.offset next.index in
    (lit< tt, some_root (c.loop.invariant.climb tree next) next c.trailing_ones-end.ensures is c.loop-test.true)

pub parent-last-requires-clause-within : goal.parent-last-requires-clause-within
parent-last-requires-clause-within g c =
    let (tree, next) = c.requires.next in
    let is = c.offset.ensures.offset tree.depth tree.offset next.index in
    (pair_below (c.loop.invariant.climb tree next) next c.trailing_ones-end.ensures is c.loop-test.true c.pop-left.ensures).within

pub parent-last-requires-clause-siblings : goal.parent-last-requires-clause-siblings
parent-last-requires-clause-siblings g c =
    let (tree, next) = c.requires.next in
    let is = c.offset.ensures.offset tree.depth tree.offset next.index in
    let pair = pair_below (c.loop.invariant.climb tree next) next c.trailing_ones-end.ensures is c.loop-test.true c.pop-left.ensures in
    (depth_up tree c.loop.counter, offset_up tree (c.loop.counter + 1), pair.at_left, pair.at_node)

pub loop-preserved : goal.loop-preserved
loop-preserved g c = record {
  room = c.add-in-loop.ensures.room ∙ c.loop.invariant.room;
  climb = λ tree next.
      let is = c.offset.ensures.offset tree.depth tree.offset next.index in
      IsUnderWay-up (c.loop.invariant.climb tree next) next c.trailing_ones-end.ensures is c.pop-left.result c.loop-test.true c.requires.bytes
      c.pop-left.ensures
      c.add-in-loop.ensures.nodes c.parent-last.ensures.index c.parent-last.ensures.twig;
}

pub push-requires : goal.push-requires
push-requires g c =
    let (tree, next) = c.requires.next in
    let is = c.offset.ensures.offset tree.depth tree.offset next.index in
    (lit< tt, room_at_top (c.loop.invariant.climb tree next) next c.trailing_ones-end.ensures is (omega (arith, c.loop-test.false, c.loop.auto.counter-end)))

pub returns-clause-grows : goal.returns-clause-grows
returns-clause-grows g c tree next =
    let is = c.offset.ensures.offset tree.depth tree.offset next.index in
    Grows-top (c.loop.invariant.climb tree next) next c.trailing_ones-end.ensures is (omega (arith, c.loop-test.false, c.loop.auto.counter-end))
    c.push.ensures c.requires.bytes

pub returns-clause-adds : goal.returns-clause-adds
returns-clause-adds g c values trees tree next =
    let is = c.offset.ensures.offset tree.depth tree.offset next.index in
    AddsTree-top (c.loop.invariant.climb tree next) next c.trailing_ones-end.ensures is (omega (arith, c.loop-test.false, c.loop.auto.counter-end))
    c.push.ensures values trees
