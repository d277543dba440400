use Rattle.std.proofs.Common.{◌≡◌, ℕ, length, subst, arith}
use Rattle.core_state.proofs.PlaysLemmas.{PlayedSoFar, played_more, played_all, played_part}
use Rattle.core_state.proofs.playing.play_steps.Goals as goal

pub returns-in-Err : goal.returns-in-Err
returns-in-Err g c =
    played_part g.C.Core.TAKES_MEMORY (g.C.Core.state c.args.core.now) (g.C.Core.state c.loop-step.core) (g.C.Core.state c.play_one.new.core) c.args.steps.now
    c.loop-step.step-index c.args.replies.now.items c.loop-step.replies.items c.play_one.new.replies.items (record {}) c.loop-step.invariant c.in-Err.ensures.0 c.in-Err.ensures.1

pub loop-step-preserved : goal.loop-step-preserved
loop-step-preserved g c =
    played_more g.C.Core.TAKES_MEMORY (g.C.Core.state c.args.core.now) (g.C.Core.state c.loop-step.core) (g.C.Core.state c.play_one.new.core) c.args.steps.now
    c.loop-step.step-index c.step-item.result c.args.replies.now.items c.loop-step.replies.items c.play_one.new.replies.items c.in-Ok.ensures.0
    (omega arith) c.step-item.is c.loop-step.invariant c.in-Ok.ensures.1 c.in-Ok.ensures.2

pub returns : goal.returns
returns g c =
    let all : c.loop-step.step-index ≡ length c.args.steps.now = omega arith in
    played_all g.C.Core.TAKES_MEMORY (g.C.Core.state c.args.core.now) (g.C.Core.state c.loop-step.core) c.args.steps.now c.args.replies.now.items
    c.loop-step.replies.items
    (subst (λ (count : ℕ). PlayedSoFar g.C.Core.TAKES_MEMORY (g.C.Core.state c.args.core.now) c.args.steps.now count (g.C.Core.state c.loop-step.core)
    c.args.replies.now.items c.loop-step.replies.items) all c.loop-step.invariant)
