use Rattle.std.proofs.Common.{refl, ◌∙◌, arith}
use Rattle.std.proofs.lemmas.List.{length-take-le}
use Rattle.proof_judge.proofs.Taken.{takes-none, takes-next, takes-end, takes-few}
use Rattle.proof_judge.proofs.fresh.put_stored.Goals as goal

pub loop-node-init : goal.loop-node-init
loop-node-init g c = (takes-none _ _ c.requires.empty, refl)

pub push_if-requires : goal.push_if-requires
push_if-requires g c =
    let few = takes-few _ _ _ c.loop-node.invariant.0 in
    let front = length-take-le c.loop-node.node-index c.args.laid.now (omega (arith, c.loop-node-test.true)) in
    record { room = omega (arith, few, front, c.loop-node-test.true, c.requires.room, c.loop-node.invariant.1) }

pub loop-node-preserved : goal.loop-node-preserved
loop-node-preserved g c = (
  takes-next _ c.args.laid.now _ _ c.loop-node.node-index _ c.is_stored.result c.loop-node-test.true c.loop-node.invariant.0 c.is_stored.ensures c.push_if.ensures.items,
  c.push_if.ensures.capacity ∙ c.loop-node.invariant.1,
)

pub returns-clause-takes : goal.returns-clause-takes
returns-clause-takes g c = takes-end _ c.args.laid.now _ _ (omega (arith, c.loop-node-test.false)) c.loop-node.invariant.0
