use Rattle.std.proofs.Common.{arith}
use Rattle.hypercore_cli.proofs.AppendLaws.{Appends-none, Appends-line, AppendsTo-line, AppendsTo-end, AppendsTo-last, AppendsTo-failed, AppendsTo-long, AppendsTo-endless}
use Rattle.hypercore_cli.proofs.batches.append_all.Goals as goal
use Rattle.hypercore_cli.proofs.batches.append_all.Goals.{in-Ok, in-Err}

pub loop-init : goal.loop-init
loop-init g c =
    rw c.new-batch.ensures (Appends-none _ _ (g.I.Source.source c.args.input.now) c.args.core.now c.args.lines.now c.requires)

pub returns-in-Ok-false : goal.returns-in-Ok-false
returns-in-Ok-false g c =
    let e = rw c.in-Ok-false.field-0-test at c.in-Ok-false.ensures in
    elim c.match-commit_last.branch [
      | in-Ok w ↦
          rw w.result-is (AppendsTo-end _ _ _ _ _ _ _ _ c.loop.lines c.next.new.self c.loop.batch c.loop.counter c.loop.invariant w.in-Ok.field-0
          (record { lines = e.lines; max = e.max; idle = e.idle; ended = e.ended; cause = e.cause }) w.in-Ok.ensures)
      | in-Err w ↦
          rw w.result-is (AppendsTo-last _ _ _ _ _ _ _ _ c.loop.lines c.next.new.self c.loop.batch c.loop.counter c.loop.invariant w.in-Err.fault
          (record { lines = e.lines; max = e.max; idle = e.idle; ended = e.ended; cause = e.cause }) w.in-Err.ensures)
    ]

pub returns-in-Err-Failed : goal.returns-in-Err-Failed
returns-in-Err-Failed g c =
    let e = rw c.in-Err-Failed.field-0-is at c.in-Err-Failed.ensures in
    AppendsTo-failed _ _ _ _ _ _ _ c.loop.core c.loop.lines c.next.new.self c.loop.batch c.loop.counter c.loop.invariant
    (record { lines = e.lines; max = e.max; idle = e.idle; ended = e.ended; cause = e.cause })

pub returns-in-Err-TooLong : goal.returns-in-Err-TooLong
returns-in-Err-TooLong g c =
    let e = rw c.in-Err-TooLong.field-0-is at c.in-Err-TooLong.ensures in
    AppendsTo-long _ _ _ _ _ _ _ c.loop.core c.loop.lines c.next.new.self c.loop.batch c.loop.counter c.loop.invariant
    (record { lines = e.lines; max = e.max; idle = e.idle; ended = e.ended; cause = e.cause })

pub returns-in-Err-take_line : goal.returns-in-Err-take_line
returns-in-Err-take_line g c =
    let e = rw c.in-Ok-true.field-0-test at c.in-Ok-true.ensures in
    AppendsTo-line _ _ _ _ _ _ _ _ c.loop.lines c.next.new.self c.loop.batch c.loop.counter c.loop.invariant c.take_line.new.batch c.in-Err-take_line.fault
    (record { lines = e.lines; max = e.max; idle = e.idle; ended = e.ended; cause = e.cause }) (rw c.line.ensures at c.in-Err-take_line.ensures)

pub loop-preserved : goal.loop-preserved
loop-preserved g c =
    let e = rw c.in-Ok-true.field-0-test at c.in-Ok-true.ensures in
    Appends-line _ _ _ _ _ _ _ _ c.loop.lines c.next.new.self c.loop.batch c.loop.counter c.loop.invariant c.take_line.new.batch c.in-Ok-take_line.field-0
    (record { lines = e.lines; max = e.max; idle = e.idle; ended = e.ended; cause = e.cause }) (rw c.line.ensures at c.in-Ok-take_line.ensures)

pub returns : goal.returns
returns g c = AppendsTo-endless _ _ _ _ _ _ c.loop.lines c.loop.batch c.loop.counter _ (λ e. cc) (omega (arith, c.loop-test.false)) c.loop.invariant
