use Rattle.merkle_batch.proofs.TrailSteps.{HasWalked}
use Rattle.merkle_batch.proofs.prove.trail_in.Given as goal

abbrev pub invariant-loop : goal.invariant-loop
invariant-loop l = HasWalked l.blocks l.index l.counter l.node l.trail
