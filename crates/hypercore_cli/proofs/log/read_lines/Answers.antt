use Rattle.std.proofs.Common.{◌∷◌, [], ap, arith, length, length-append}
use Rattle.hypercore_cli.proofs.LimitLemmas.{AppendFits-log}
use Rattle.hypercore_cli.proofs.LogReads.{HasMet-next, HasLog-added, IsLogOf-end, PassesLimit-too_long, Refuses-met}
use Rattle.hypercore_cli.proofs.log.read_lines.Goals as goal

pub returns-in-Ok-false : goal.returns-in-Ok-false
returns-in-Ok-false g c =
    let e = rw c.in-Ok-false.field-0-test at c.in-Ok-false.ensures in
    IsLogOf-end _ _ _ c.loop-log.lines c.next.new.self c.loop-log.log c.loop-log.invariant
    (record { lines = e.lines; max = e.max; idle = e.idle; ended = e.ended; cause = e.cause })

pub returns-in-Err-TooLong : goal.returns-in-Err-TooLong
returns-in-Err-TooLong g c =
    let e = rw c.in-Err-TooLong.field-0-is at c.in-Err-TooLong.ensures in
    PassesLimit-too_long _ _ _ c.loop-log.lines c.next.new.self c.loop-log.log c.loop-log.invariant
    (record { lines = e.lines; max = e.max; idle = e.idle; ended = e.ended; cause = e.cause })

pub loop-log-smaller : goal.loop-log-smaller
loop-log-smaller g c =
    let fits = AppendFits-log c.add_line.new.log c.in-Ok.ensures.1 in
    omega (arith, fits.few, ap length c.in-Ok.ensures.0, length-append c.loop-log.log (c.line.result.now ∷ []))

pub loop-log-preserved : goal.loop-log-preserved
loop-log-preserved g c =
    let e = rw c.in-Ok-true.field-0-test at c.in-Ok-true.ensures in
    let met = HasMet-next _ _ _ c.loop-log.lines c.next.new.self c.loop-log.log c.loop-log.invariant
    (record { lines = e.lines; max = e.max; idle = e.idle; ended = e.ended; cause = e.cause }) in
    HasLog-added _ _ c.next.new.self c.loop-log.log c.add_line.new.log met.0 (rw c.line.ensures at c.in-Ok.ensures)

pub returns-in-Err : goal.returns-in-Err
returns-in-Err g c =
    let e = rw c.in-Ok-true.field-0-test at c.in-Ok-true.ensures in
    let met = HasMet-next _ _ _ c.loop-log.lines c.next.new.self c.loop-log.log c.loop-log.invariant
    (record { lines = e.lines; max = e.max; idle = e.idle; ended = e.ended; cause = e.cause }) in
    Refuses-met _ _ c.next.new.self c.loop-log.log c.in-Err.outcome met.0 (rw c.line.ensures at c.in-Err.ensures)
