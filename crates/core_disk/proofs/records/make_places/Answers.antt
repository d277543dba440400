use Rattle.std.proofs.Common.{◌+◌, List, Option, sym, subst, ap, ◌∙◌}
use Rattle.merkle_nodes.specs.declared.node.Node.{Node}
use Rattle.core_disk.proofs.RecordLemmas.{Places, AreAhead, list_of, places_next, places_last, ahead_next, ahead_last}
use Rattle.core_disk.proofs.records.make_places.Goals as goal

pub loop-preserved : goal.loop-preserved
loop-preserved c =
    let next = places_next c.loop.nodes c.make_place.new.nodes c.args.records.now c.loop.ahead c.in-Some.node c.in-Some.rest c.in-Some.is c.in-Ok.ensures.kept
    c.in-Ok.ensures.place c.loop.invariant.0 in (
      subst (λ (a : Option (Node × List Node)). Places c.make_place.new.nodes (list_of a) c.args.records.now) (sym c.first-ahead-in-loop.ensures) next,
      c.in-Ok.ensures.same ∙ c.loop.invariant.1,
      subst (λ (a : Option (Node × List Node)). AreAhead a (c.loop.counter + 1) c.len-end.result) (sym c.first-ahead-in-loop.ensures)
          (ahead_next c.loop.ahead c.in-Some.node c.in-Some.rest c.loop.counter c.len-end.result c.in-Some.is c.loop.invariant.2),
    )

pub returns-in_default-clause-places : goal.returns-in_default-clause-places
returns-in_default-clause-places c = places_last c.loop.nodes c.args.records.now c.loop.ahead (ap list_of c.in_default.is) c.loop.invariant.0

pub returns-clause-places : goal.returns-clause-places
returns-clause-places c =
    places_last c.loop.nodes c.args.records.now c.loop.ahead (ahead_last c.loop.ahead c.loop.counter c.len-end.result c.loop-test.false c.loop.invariant.2) c.loop.invariant.0
