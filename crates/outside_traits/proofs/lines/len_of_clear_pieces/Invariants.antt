use Rattle.std.proofs.Common.{◌-◌, ◌≤◌, length, take}
use Rattle.outside_traits.specs.Lines.{HasNoFeed}
use Rattle.outside_traits.proofs.lines.len_of_clear_pieces.Given as goal

abbrev pub invariant-loop-at : goal.invariant-loop-at
invariant-loop-at l = record { within : l.at ≤ length l.bytes; no_feed : HasNoFeed (take l.at l.bytes) }

abbrev pub decreases-loop-at : goal.decreases-loop-at
decreases-loop-at l = length l.bytes - l.at
