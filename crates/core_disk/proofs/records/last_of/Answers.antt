use Rattle.std.proofs.Common.{◌+◌, List, Option, sym, subst, ap}
use Rattle.merkle_nodes.specs.declared.node.Node.{Node}
use Rattle.core_disk.proofs.RecordLemmas.{IsLast, AreAhead, list_of, last_first, last_next, last_end, ahead_first, ahead_next, ahead_last}
use Rattle.core_disk.proofs.records.last_of.Goals as goal

pub loop-init : goal.loop-init
loop-init c =
    subst (λ (a : Option (Node × List Node)). IsLast c.args.records.now c.args.index c.args.before a c.args.before × AreAhead a 0 c.len-end.result) (sym c.first-ahead.ensures)
    (last_first c.args.records.now c.args.index c.args.before, ahead_first c.args.records.now c.len-end.result c.len-end.ensures)

pub loop-preserved : goal.loop-preserved
loop-preserved c =
    subst (λ (a : Option (Node × List Node)). IsLast c.args.records.now c.args.index c.args.before a c.pick-found.result × AreAhead a (c.loop.counter + 1) c.len-end.result)
    (sym c.first-ahead-in-loop.ensures) (
      last_next c.args.records.now c.args.index c.args.before c.loop.found c.pick-found.result c.loop.ahead c.in-Some.node c.in-Some.rest c.in-Some.is c.pick-found.ensures
          c.loop.invariant.0,
      ahead_next c.loop.ahead c.in-Some.node c.in-Some.rest c.loop.counter c.len-end.result c.in-Some.is c.loop.invariant.1,
    )

pub returns-in_default : goal.returns-in_default
returns-in_default c =
    last_end c.args.records.now c.args.index c.args.before c.loop.found c.loop.ahead (ap list_of c.in_default.is) c.loop.invariant.0

pub returns : goal.returns
returns c =
    last_end c.args.records.now c.args.index c.args.before c.loop.found c.loop.ahead
    (ahead_last c.loop.ahead c.loop.counter c.len-end.result c.loop-test.false c.loop.invariant.1) c.loop.invariant.0
