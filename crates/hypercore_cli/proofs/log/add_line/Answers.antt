use Rattle.std.proofs.Common.{ap, length, arith}
use Rattle.hypercore_cli.proofs.LimitLemmas.{joined-le, limit_in-line_joined, limit_in-push}
use Rattle.hypercore_cli.proofs.log.add_line.Goals as goal

pub passed-requires-clause-batch : goal.passed-requires-clause-batch
passed-requires-clause-batch c = omega (arith, joined-le c.args.log.now c.requires.fits, ap length c.flat.ensures)

pub returns-in-Some : goal.returns-in-Some
returns-in-Some c =
    limit_in-line_joined c.args.log.now c.args.line.now c.in-Some.field-0 c.requires.fits (rw (c.len.ensures, c.flat.ensures) at c.in-Some.ensures)

pub returns-in-Ok : goal.returns-in-Ok
returns-in-Ok c =
    let fits = limit_in-push c.args.log.now c.args.line.now c.requires.fits (rw (c.len.ensures, c.flat.ensures) at c.in_default.ensures) in
    (c.in-Ok.ensures.ok, rw c.in-Ok.ensures.ok fits)
