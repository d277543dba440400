use Rattle.std.proofs.Common.{[], ◌∷◌, ◌++◌, take}
use Rattle.std.specs.List.{flat_map}
use Rattle.blake2b_hash.specs.Hasher.{Holds}
use Rattle.merkle_nodes.specs.Roots.{root_part}
use Rattle.merkle_nodes.proofs.roots.hash_of_roots.Given as goal

abbrev pub invariant-loop-root : goal.invariant-loop-root
invariant-loop-root l = Holds 32 [] ((2 ∷ []) ++ flat_map root_part (take l.root-index l.roots)) l.hasher
