use Rattle.core_state.proofs.PlaysLemmas.{PlayedSoFar}
use Rattle.core_state.proofs.playing.play_steps.Given as goal

-- the steps so far were played, and what is kept of them was added
abbrev pub invariant-loop-step : goal.invariant-loop-step
invariant-loop-step g l =
    PlayedSoFar g.C.Core.TAKES_MEMORY (g.C.Core.state l.fn.core) l.steps l.step-index (g.C.Core.state l.core) l.fn.replies.items l.replies.items
