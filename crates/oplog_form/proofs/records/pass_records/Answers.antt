use Rattle.std.proofs.Common.{arith}
use Rattle.oplog_form.proofs.NodeLoops.{records_go_on, records_fail, records_done}
use Rattle.oplog_form.proofs.records.pass_records.Goals as goal

pub returns-in-Err : goal.returns-in-Err
returns-in-Err c = records_fail c.args.count c.loop.counter c.loop.least c.loop.from _ _ c.loop-test.true c.in-Err.ensures.gives c.loop.invariant.0

pub returns : goal.returns
returns c = records_done c.args.count c.loop.counter c.loop.least c.loop.from _ c.loop-test.false c.loop.invariant.0

pub loop-preserved : goal.loop-preserved
loop-preserved c = (
  records_go_on c.args.count c.loop.counter c.loop.least c.loop.from c.in-Ok.node _ _ c.loop-test.true c.in-Ok.ensures.gives c.loop.invariant.0,
  omega (arith, c.in-Ok.ensures.within),
)
