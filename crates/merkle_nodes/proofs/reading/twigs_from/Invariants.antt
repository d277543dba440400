use Rattle.std.proofs.Common.{◌≡◌, ◌≤◌, ◌-◌, length}
use Rattle.merkle_nodes.specs.Reading.{twigs_at}
use Rattle.merkle_nodes.proofs.Loop.{with_front}
use Rattle.merkle_nodes.proofs.reading.twigs_from.Given as goal

abbrev pub invariant-loop : goal.invariant-loop
invariant-loop l = (with_front l.twigs (twigs_at (l.count - l.counter) l.rest) ≡ twigs_at l.count l.bytes) × (length l.twigs ≤ l.counter)
