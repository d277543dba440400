use Rattle.std.proofs.Common.{◌≡◌, ◌+◌, ◌-◌, ◌*◌, ◌/◌, ◌^◌, ◌≤◌}
use Rattle.flat_tree.specs.declared.limits.TheConstants.{MAX_CORE_BYTES}
use Rattle.node_set.specs.Offsets.{left_bytes}
use Rattle.core_disk.specs.InHand.{opened_of}
use Rattle.core_disk.specs.Laid.{SizesFit, outline}
use Rattle.core_disk.proofs.replay.DiskState.left_of_path.Given as goal

-- the bytes so far with those of the levels above are all
abbrev pub invariant-loop-level : goal.invariant-loop-level
invariant-loop-level l =
    (let node = (outline (opened_of l.fn.self)).node in SizesFit node
    → l.bytes + left_bytes (l.levels - l.level) node l.level (l.index / 2 ^ l.level) ≡ left_bytes l.levels node 0 l.index)
    × (l.bytes ≤ l.level * MAX_CORE_BYTES)
