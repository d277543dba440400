use Rattle.std.proofs.Common.{◌≡◌, ℕ, false, ◌<◌, ◌+◌, ◌/◌, ◌^◌}
use Rattle.node_set.specs.Contents.{held}
use Rattle.node_set.specs.Closure.{in_closure}
use Rattle.proof_judge.proofs.part.levels_up.Given as goal

-- no node so far is to be stored
abbrev pub invariant-loop-level : goal.invariant-loop-level
invariant-loop-level g l =
    let m = (g.V.View.view l.view).source.content in
    (level : ℕ) → level < l.level → in_closure m.length (held m) (l.part.depth + level) (l.part.offset / 2 ^ level) ≡ false
