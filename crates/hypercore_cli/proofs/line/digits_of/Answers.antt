use Rattle.std.proofs.Common.{arith}
use Rattle.hypercore_cli.proofs.Digits.{HasDigits-start, HasDigits-more, HasDigits-last}
use Rattle.hypercore_cli.proofs.line.digits_of.Goals as goal

pub loop-rest-init : goal.loop-rest-init
loop-rest-init c = HasDigits-start c.args.number c.args.digits.now c.told-digits c.ranges.number.fits

pub returns-then-rest-eq0-clause-digits : goal.returns-then-rest-eq0-clause-digits
returns-then-rest-eq0-clause-digits c = HasDigits-last c.args.number c.loop-rest.digits c.loop-rest.first c.loop-rest.rest c.loop-rest.invariant (omega (arith, c.if-rest-eq0.true))

pub loop-rest-preserved : goal.loop-rest-preserved
loop-rest-preserved c = HasDigits-more c.args.number c.loop-rest.digits c.loop-rest.first c.loop-rest.rest c.loop-rest.invariant (omega (arith, c.if-rest-eq0.false))
