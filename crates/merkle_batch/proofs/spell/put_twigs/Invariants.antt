use Rattle.std.proofs.Common.{◌≡◌, ◌≤◌, ◌+◌, ◌*◌, ◌++◌, length, take, vec_capacity}
use Rattle.std.specs.List.{flat_map}
use Rattle.merkle_nodes.specs.declared.reading.TheConstants.{TWIG_BYTES}
use Rattle.merkle_nodes.specs.Bundle.{twig_spelling}
use Rattle.merkle_batch.proofs.spell.put_twigs.Given as goal

-- those so far were written, and the memory stays
abbrev pub invariant-loop-twig : goal.invariant-loop-twig
invariant-loop-twig l =
    (l.out.items ≡ l.fn.out.items ++ flat_map twig_spelling (take l.twig-index l.twigs))
    × (length l.out.items ≡ length l.fn.out.items + TWIG_BYTES * l.twig-index)
    × (vec_capacity l.fn.out ≤ vec_capacity l.out)
