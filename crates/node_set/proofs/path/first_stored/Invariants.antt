use Rattle.std.proofs.Common.{◌≡◌, ℕ, false, ◌<◌, ◌/◌, ◌^◌}
use Rattle.node_set.specs.Contents.{held}
use Rattle.node_set.specs.Closure.{in_closure}
use Rattle.node_set.specs.Walks.{KeepsView}
use Rattle.node_set.proofs.path.first_stored.Given as goal

-- the view stays, and no node so far is to be stored
abbrev pub invariant-loop-level : goal.invariant-loop-level
invariant-loop-level g l =
    KeepsView (g.V.View.view l.fn.view) (g.V.View.view l.view)
    × (let m = (g.V.View.view l.fn.view).content in (level : ℕ) → level < l.level → in_closure m.length (held m) level (l.index / 2 ^ level) ≡ false)
