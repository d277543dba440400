use Rattle.std.proofs.Common.{rules, refl, ◌∙◌, arith}
use Rattle.std.proofs.lemmas.List.{length-take-le}
use Rattle.proof_judge.proofs.Taken.{takes-none, takes-end, takes-few, takes-order}
use Rattle.proof_judge.proofs.Coming.{fresh_of, next_comes}
use Rattle.proof_judge.proofs.fresh.put_fresh.Goals as goal

pub loop-node-init : goal.loop-node-init
loop-node-init g c = record { keeps = search rules; takes = takes-none _ _ c.requires.empty; capacity = refl }

pub push_if-requires : goal.push_if-requires
push_if-requires g c =
    let few = takes-few _ _ _ c.loop-node.invariant.takes in
    let front = length-take-le c.loop-node.node-index c.args.nodes.now (omega (arith, c.loop-node-test.true)) in
    record { room = omega (arith, few, front, c.loop-node-test.true, c.requires.room, c.loop-node.invariant.capacity) }

pub loop-node-preserved : goal.loop-node-preserved
loop-node-preserved g c =
    let so_far = c.loop-node.invariant in
    record {
      keeps = search rules;
      takes = next_comes _ _ _ c.args.nodes.now _ _ c.loop-node.node-index _ c.in-Ok.same so_far.keeps.source c.loop-node-test.true so_far.takes c.in-Ok.ensures.given
          c.in-Ok.ensures.shown c.push_if.ensures.items;
      capacity = c.push_if.ensures.capacity ∙ so_far.capacity;
    }

pub returns-clause-fresh : goal.returns-clause-fresh
returns-clause-fresh g c = λ after shows closed long may.
    fresh_of (g.V.View.view c.args.view.now).source after c.args.length c.args.nodes.now c.loop-node.fresh.items
    (takes-end _ _ _ _ (omega (arith, c.loop-node-test.false)) c.loop-node.invariant.takes) shows closed long may

pub returns-clause-order : goal.returns-clause-order
returns-clause-order g c = takes-order _ _ _ (takes-end _ c.args.nodes.now _ _ (omega (arith, c.loop-node-test.false)) c.loop-node.invariant.takes) c.requires.order

pub returns-clause-few : goal.returns-clause-few
returns-clause-few g c = takes-few _ _ _ (takes-end _ c.args.nodes.now _ _ (omega (arith, c.loop-node-test.false)) c.loop-node.invariant.takes)
