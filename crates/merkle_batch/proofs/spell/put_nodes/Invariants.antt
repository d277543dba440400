use Rattle.std.proofs.Common.{◌≡◌, ◌≤◌, ◌+◌, ◌*◌, ◌++◌, length, take, vec_capacity}
use Rattle.std.specs.List.{flat_map}
use Rattle.merkle_nodes.specs.declared.reading.TheConstants.{TWIG_BYTES}
use Rattle.merkle_nodes.specs.Bundle.{node_spelling}
use Rattle.merkle_batch.proofs.spell.put_nodes.Given as goal

-- those so far were written, and the memory stays
abbrev pub invariant-loop-node : goal.invariant-loop-node
invariant-loop-node l =
    (l.out.items ≡ l.fn.out.items ++ flat_map node_spelling (take l.node-index l.nodes))
    × (length l.out.items ≡ length l.fn.out.items + TWIG_BYTES * l.node-index)
    × (vec_capacity l.fn.out ≤ vec_capacity l.out)
