use Rattle.std.proofs.Common.{◌≡◌, ◌≤◌, length, drop}
use Rattle.merkle_nodes.specs.Reading.{nodes_at}
use Rattle.merkle_nodes.proofs.Loop.{with_front}
use Rattle.merkle_nodes.proofs.reading.nodes_from.Given as goal

abbrev pub invariant-loop-index : goal.invariant-loop-index
invariant-loop-index l = (with_front l.nodes (nodes_at (drop l.index-index l.numbers) l.rest) ≡ nodes_at l.numbers l.bytes) × (length l.nodes ≤ l.index-index)
