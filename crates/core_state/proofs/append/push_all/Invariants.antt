use Rattle.core_state.proofs.BatchLemmas.{HasPushed}
use Rattle.core_state.proofs.append.push_all.Given as goal

-- the blocks so far were pushed
abbrev pub invariant-loop-place : goal.invariant-loop-place
invariant-loop-place l = HasPushed l.fn.batch l.blocks l.place l.batch
