-- Trees over the blocks of a log, after DEP-0002: sizes and hashes, which know no node number.
use Rattle.std.specs.Prelude.{ℕ, zero, suc, ◌+◌, ◌*◌, List, [], ◌∷◌, ◌++◌, length, slice_index_or}
use Rattle.std.specs.Int.{w64, to_le_bytes}
use Rattle.blake2b_hash.specs.Blake2b.{hash_of}
use Rattle.merkle_nodes.specs.declared.node.Twig.{Twig}

-- a number in eight bytes, low byte first
abbrev pub u64_bytes : ℕ → List ℕ
u64_bytes = to_le_bytes w64

-- what is hashed for a block
abbrev pub leaf_input : List ℕ → List ℕ
leaf_input block = (0 ∷ u64_bytes (length block)) ++ block

-- a block's leaf
abbrev pub leaf_of : List ℕ → Twig
leaf_of block = record { size = length block; hash = hash_of (leaf_input block) }

-- what is hashed for the parent of two halves
abbrev pub parent_input : Twig → Twig → List ℕ
parent_input left right = (1 ∷ u64_bytes (left.size + right.size)) ++ left.hash ++ right.hash

-- the parent of two halves
abbrev pub parent_of : Twig → Twig → Twig
parent_of left right = record { size = left.size + right.size; hash = hash_of (parent_input left right) }

-- the tree over the blocks of a subtree, all of which are in the log
unfoldable pub tree_of : List (List ℕ) → ℕ → ℕ → Twig
tree_of log zero offset = leaf_of (slice_index_or log offset [])
tree_of log (suc depth) offset = parent_of (tree_of log depth (2 * offset)) (tree_of log depth (2 * offset + 1))
