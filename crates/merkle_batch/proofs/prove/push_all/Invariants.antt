use Rattle.merkle_batch.proofs.Pushing.{HasPushed}
use Rattle.merkle_batch.proofs.prove.push_all.Given as goal

abbrev pub invariant-loop-place : goal.invariant-loop-place
invariant-loop-place l = HasPushed l.blocks l.place l.batch
