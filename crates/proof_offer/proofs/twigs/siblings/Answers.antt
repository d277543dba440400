use Rattle.std.proofs.Common.{arith}
use Rattle.proof_offer.proofs.Siblings.{climbed-start, climbed-fits, climbed-up}
use Rattle.proof_offer.proofs.twigs.siblings.Goals as goal

pub loop-init : goal.loop-init
loop-init c = climbed-start _ _ (omega (arith, c.requires.node)) c.new-numbers.ensures

pub sibling-requires : goal.sibling-requires
sibling-requires c = record { within = climbed-fits _ _ _ _ c.loop.invariant (omega (arith, c.requires.few, c.loop.auto.counter-end)) }

pub parent-over-requires : goal.parent-over-requires
parent-over-requires c = record { within = climbed-fits _ _ _ _ c.loop.invariant (omega (arith, c.requires.few, c.loop.auto.counter-end)) }

pub loop-preserved : goal.loop-preserved
loop-preserved c = climbed-up _ _ _ _ _ _ _ c.loop.invariant c.sibling.ensures.sibling c.parent-over.ensures.parent c.parent-over.ensures.fits c.push.ensures
