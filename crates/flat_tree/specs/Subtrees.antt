-- The subtrees of a log and their nodes, after DEP-0002: the subtree at a depth and an offset has the
-- 2 ^ depth blocks from offset * 2 ^ depth on.
use Rattle.std.specs.Prelude.{ℕ, List, [], ◌∷◌, ◌≡◌, ◌+◌, ◌-◌, ◌*◌, ◌^◌, map}

-- a subtree by the row that it stands in and its place there
pub record Subtree : Type 0 where
  pub depth : ℕ
  pub offset : ℕ

-- the subtree at a depth and an offset
abbrev pub subtree : ℕ → ℕ → Subtree
subtree depth offset = record { depth = depth; offset = offset }

-- the node of a subtree stands between the nodes of its halves, and block i is node 2 * i
unfoldable pub number : ℕ → ℕ → ℕ
number depth offset = offset * 2 ^ (depth + 1) + (2 ^ depth - 1)

-- the first block of the subtree
unfoldable pub first_block_of : ℕ → ℕ → ℕ
first_block_of depth offset = offset * 2 ^ depth

-- the block after its last
unfoldable pub end_block_of : ℕ → ℕ → ℕ
end_block_of depth offset = (offset + 1) * 2 ^ depth

-- the nodes of a list of subtrees
abbrev pub numbers_of : List Subtree → List ℕ
numbers_of = map (λ (tree : Subtree). number tree.depth tree.offset)

-- the subtrees, left to right, have the blocks from..to, each block once
abbrev pub Tile : List Subtree → ℕ → ℕ → Type 0
Tile [] from to = from ≡ to
Tile (tree ∷ trees) from to =
    (first_block_of tree.depth tree.offset ≡ from)
    × Tile trees (end_block_of tree.depth tree.offset) to
