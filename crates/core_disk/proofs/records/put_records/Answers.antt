use Rattle.std.proofs.Common.{◌+◌, List, Option, sym, subst, ap}
use Rattle.merkle_nodes.specs.declared.node.Node.{Node}
use Rattle.node_set.specs.Nodes.{values_of}
use Rattle.core_disk.proofs.RecordLemmas.{IsPut, AreAhead, list_of, put_first, put_next, put_place, put_last, ahead_first, ahead_next, ahead_last}
use Rattle.core_disk.proofs.records.put_records.Goals as goal

pub loop-init : goal.loop-init
loop-init c =
    subst (λ (a : Option (Node × List Node)). IsPut (values_of c.args.nodes.now) c.args.records.now c.args.nodes.now a × AreAhead a 0 c.len-end.result) (sym c.first-ahead.ensures)
    (put_first c.args.nodes.now c.args.records.now c.requires.places, ahead_first c.args.records.now c.len-end.result c.len-end.ensures)

pub put_record-requires : goal.put_record-requires
put_record-requires c = record {
  place = put_place (values_of c.args.nodes.now) c.args.records.now c.loop.nodes c.loop.ahead c.in-Some.node c.in-Some.rest c.in-Some.is c.loop.invariant.0;
}

pub loop-preserved : goal.loop-preserved
loop-preserved c =
    subst (λ (a : Option (Node × List Node)). IsPut (values_of c.args.nodes.now) c.args.records.now c.put_record.new.nodes a × AreAhead a (c.loop.counter + 1) c.len-end.result)
    (sym c.first-ahead-in-loop.ensures) (
      put_next (values_of c.args.nodes.now) c.args.records.now c.loop.nodes c.put_record.new.nodes c.loop.ahead c.in-Some.node c.in-Some.rest c.in-Some.is
          c.put_record.ensures.kept c.put_record.ensures.values c.loop.invariant.0,
      ahead_next c.loop.ahead c.in-Some.node c.in-Some.rest c.loop.counter c.len-end.result c.in-Some.is c.loop.invariant.1,
    )

pub returns-in_default : goal.returns-in_default
returns-in_default c = put_last (values_of c.args.nodes.now) c.args.records.now c.loop.nodes c.loop.ahead (ap list_of c.in_default.is) c.loop.invariant.0

pub returns : goal.returns
returns c =
    put_last (values_of c.args.nodes.now) c.args.records.now c.loop.nodes c.loop.ahead
    (ahead_last c.loop.ahead c.loop.counter c.len-end.result c.loop-test.false c.loop.invariant.1) c.loop.invariant.0
