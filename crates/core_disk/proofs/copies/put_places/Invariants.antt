use Rattle.std.proofs.Common.{◌≡◌, length}
use Rattle.bit_field.specs.Places.{has}
use Rattle.core_disk.specs.Copying.{SetsPlaces}
use Rattle.core_disk.proofs.copies.put_places.Given as goal

-- the places so far have the bytes' bits
abbrev pub invariant-loop-at : goal.invariant-loop-at
invariant-loop-at l = SetsPlaces l.bytes l.from l.at (has l.fn.held) (has l.held) × (length l.held ≡ length l.fn.held)
