use Rattle.std.proofs.Common.{[], ◌∷◌, arith, length-append}
use Rattle.proof_form.proofs.TwigLoop.{twigs_go_on, twigs_fail, twigs_done}
use Rattle.proof_form.proofs.twigs.twigs_from.Goals as goal

pub returns-in-Err : goal.returns-in-Err
returns-in-Err g c = twigs_fail c.loop.twigs c.args.count c.loop.counter c.loop.from _ _ c.loop-test.true c.in-Err.ensures c.loop.invariant.0

pub loop-preserved : goal.loop-preserved
loop-preserved g c = rw c.push.ensures (
  twigs_go_on c.loop.twigs c.args.count c.loop.counter c.loop.from _ _ _ c.loop-test.true c.in-Ok.ensures c.loop.invariant.0,
  omega (arith, length-append c.loop.twigs (c.in-Ok.twig ∷ []), c.loop.invariant.1),
)

pub returns : goal.returns
returns g c = twigs_done c.loop.twigs c.args.count c.loop.counter c.loop.from _ c.loop-test.false c.loop.invariant.0
