use Rattle.std.proofs.Common.{arith, sym}
use Rattle.oplog_form.proofs.RecordWrites.{go_on, stop, one_less}
use Rattle.oplog_form.proofs.records.write_each.Goals as goal

pub returns-in-Err : goal.returns-in-Err
returns-in-Err c =
    stop c.args.records c.loop.left c.in-Some.node c.in-Some.rest c.args.to.now c.loop.to c.write_record.new.to _ c.loop.invariant.0 (sym c.in-Some.ensures) c.in-Err.ensures

pub loop-preserved : goal.loop-preserved
loop-preserved c = (
  go_on c.args.records c.loop.left c.in-Some.node c.in-Some.rest c.args.to.now c.loop.to c.write_record.new.to c.loop.invariant.0 (sym c.in-Some.ensures) c.in_default-write_record.ensures,
  omega (arith, one_less c.loop.left c.in-Some.node c.in-Some.rest (sym c.in-Some.ensures), c.loop.invariant.1),
)
