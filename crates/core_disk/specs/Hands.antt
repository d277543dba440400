-- What is in memory as its parts.
use Rattle.core_disk.specs.declared.replay.DiskState.TheInside.{Inside}
use Rattle.core_disk.specs.InHand.{InHand}

-- the same
abbrev pub hand_of : Inside → InHand
hand_of inside = record { head = inside.head; roots = inside.roots; held = inside.held; nodes = inside.nodes }
