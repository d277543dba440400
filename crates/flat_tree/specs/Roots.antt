-- The full roots of a number of blocks: the perfect subtrees of its binary digits, largest first, left
-- to right; and which of them is over a block.
use Rattle.std.specs.Prelude.{ℕ, zero, suc, List, [], ◌∷◌, ◌<◌, ◌+◌, ◌-◌, ◌/◌, ◌%◌, ◌^◌, if◌then◌else◌, nat_eq, nat_lt}
use Rattle.flat_tree.specs.Subtrees.{Subtree, subtree, end_block_of}

-- the subtrees of the digits below a place: a digit that is one gives the subtree of that depth after
-- the blocks of the higher digits
unfoldable pub roots_below : ℕ → ℕ → List Subtree
roots_below zero blocks = []
roots_below (suc depth) blocks =
    let lower = roots_below depth blocks in
    let count = blocks / 2 ^ depth in
    if nat_eq (count % 2) 1 then subtree depth (count - 1) ∷ lower else lower

-- a number has no more digits than itself
unfoldable pub full_roots_of : ℕ → List Subtree
full_roots_of blocks = roots_below blocks blocks

-- the depths fall from left to right, below a first bound
abbrev pub FallBelow : ℕ → List Subtree → Type 0
FallBelow bound [] = Unit {0}
FallBelow bound (tree ∷ trees) = (tree.depth < bound) × FallBelow tree.depth trees

-- each depth is less than the one before
abbrev pub Fall : List Subtree → Type 0
Fall [] = Unit {0}
Fall (tree ∷ trees) = FallBelow tree.depth trees

-- the place of the first subtree that ends past the block
unfoldable pub place_past : List Subtree → ℕ → ℕ
place_past [] block = 0
place_past (tree ∷ trees) block =
    let next = place_past trees block in
    if nat_lt block (end_block_of tree.depth tree.offset) then 0 else next + 1

-- its depth
unfoldable pub depth_past : List Subtree → ℕ → ℕ
depth_past [] block = 0
depth_past (tree ∷ trees) block =
    let next = depth_past trees block in
    if nat_lt block (end_block_of tree.depth tree.offset) then tree.depth else next

-- the place in the full roots of the root over a block
abbrev pub place_over : ℕ → ℕ → ℕ
place_over blocks block = place_past (full_roots_of blocks) block

-- the depth of the full root over a block
abbrev pub depth_over : ℕ → ℕ → ℕ
depth_over blocks block = depth_past (full_roots_of blocks) block
