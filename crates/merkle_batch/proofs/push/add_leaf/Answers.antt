use Rattle.std.proofs.Common.{◌+◌, ◌/◌, ◌^◌, arith, lit<}
use Rattle.merkle_batch.proofs.Climb.{some_root, pair_of, IsUnderWay-step, room_at_top, Grows-top, AreOf-top}
use Rattle.merkle_batch.proofs.push.add_leaf.Goals as goal

pub pop-left-requires : goal.pop-left-requires
pop-left-requires c = (lit< tt, some_root c.loop.invariant.climbing c.requires.within (omega arith))

pub parent-node-requires-clause-within : goal.parent-node-requires-clause-within
parent-node-requires-clause-within c = (pair_of c.loop.invariant.climbing c.pop-left.ensures c.requires.within (omega arith)).within

pub parent-node-requires-clause-siblings : goal.parent-node-requires-clause-siblings
parent-node-requires-clause-siblings c =
    let pair = pair_of c.loop.invariant.climbing c.pop-left.ensures c.requires.within (omega arith) in
    (c.loop.counter, c.args.block / 2 ^ (c.loop.counter + 1), pair.at_left, pair.at_node)

pub loop-preserved : goal.loop-preserved
loop-preserved c =
    let both = pair_of c.loop.invariant.climbing c.pop-left.ensures c.requires.within (omega arith) in
    IsUnderWay-step c.loop.invariant both c.requires.bytes c.pop-left.ensures c.push_reserved-in-loop.ensures.items c.push_reserved-in-loop.ensures.capacity
    (c.parent-node.ensures.index c.loop.counter (c.args.block / 2 ^ (c.loop.counter + 1)) both.at_left) c.parent-node.ensures.twig

pub push-requires : goal.push-requires
push-requires c = (lit< tt, room_at_top c.loop.invariant.climbing c.requires.within (omega arith))

pub returns-clause-grows : goal.returns-clause-grows
returns-clause-grows c = Grows-top c.loop.invariant c.requires.within (omega arith) c.push.ensures c.requires.bytes

pub returns-clause-adds : goal.returns-clause-adds
returns-clause-adds c values trees joins value are =
    AreOf-top c.loop.invariant.climbing c.requires.within (omega arith) c.push.ensures (c.loop.invariant.climbed values trees joins value are)
