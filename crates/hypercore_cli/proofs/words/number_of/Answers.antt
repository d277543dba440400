use Rattle.std.proofs.Common.{arith}
use Rattle.hypercore_cli.proofs.Numbers.{IsNumberSoFar-room}
use Rattle.hypercore_cli.proofs.words.number_of.Goals as goal

pub overflow_mul-number : goal.overflow_mul-number
overflow_mul-number c =
    let room = IsNumberSoFar-room c.args.digits.now c.loop-digit.digit-index c.loop-digit.number c.requires c.loop-digit-test.true c.loop-digit.invariant in
    omega (arith, room.0)

pub overflow_add-number : goal.overflow_add-number
overflow_add-number c =
    let room = IsNumberSoFar-room c.args.digits.now c.loop-digit.digit-index c.loop-digit.number c.requires c.loop-digit-test.true c.loop-digit.invariant in
    omega (arith, room.0, room.2)
