use Rattle.std.proofs.Common.{◌≡◌, IsTrue, ◌+◌, ◌-◌, ◌*◌, ◌/◌, ◌^◌, ◌≤◌}
use Rattle.flat_tree.specs.declared.limits.TheConstants.{MAX_CORE_BYTES}
use Rattle.node_set.specs.Offsets.{left_bytes}
use Rattle.node_set.specs.Walks.{KeepsView}
use Rattle.node_set.proofs.path.left_of_path.Given as goal

-- the view stays, and the bytes so far with those of the levels above are all
abbrev pub invariant-loop-level : goal.invariant-loop-level
invariant-loop-level g l =
    KeepsView (g.V.View.view l.fn.view) (g.V.View.view l.view)
    × (let v = g.V.View.view l.fn.view in IsTrue v.stands
    → l.bytes + left_bytes (l.levels - l.level) v.content.node l.level (l.index / 2 ^ l.level) ≡ left_bytes l.levels v.content.node 0 l.index)
    × (l.bytes ≤ l.level * MAX_CORE_BYTES)
