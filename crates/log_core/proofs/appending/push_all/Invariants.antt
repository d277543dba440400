use Rattle.log_core.proofs.BatchLemmas.{HasPushed}
use Rattle.log_core.proofs.appending.push_all.Given as goal

-- the blocks so far were pushed
abbrev pub invariant-loop-place : goal.invariant-loop-place
invariant-loop-place l = HasPushed l.fn.batch l.blocks l.place l.batch
