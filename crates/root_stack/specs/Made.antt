-- The subtrees that become full as a log grows by subtrees, one behind the other.
use Rattle.std.specs.Prelude.{◌≡◌, ℕ, suc, ◌+◌, ◌/◌, ◌^◌, ◌<◌, ◌≤◌, ◌⊎◌, List, map}
use Rattle.std.specs.List.{Contains, flat_map, range_with_len}
use Rattle.std.specs.Int.{w64, trailing_ones}
use Rattle.flat_tree.specs.Subtrees.{Subtree, subtree, first_block_of, end_block_of}

-- the subtrees that end with one and contain it, from itself upward: itself, and one for each one bit that its offset
-- ends in
abbrev pub ending_with : Subtree → List Subtree
ending_with tree =
    map (λ up. subtree (tree.depth + up) (tree.offset / 2 ^ up)) (range_with_len 0 (trailing_ones w64 tree.offset + 1))

-- the subtrees that become full with these, left to right
abbrev pub made_by : List Subtree → List Subtree
made_by = flat_map ending_with

-- the subtree ends with one of the blocks from..to, and the one over it has blocks before these or behind them
pub record IsMade (from to depth offset : ℕ) : Type 0 where
  pub past : from < end_block_of depth offset
  pub within : end_block_of depth offset ≤ to
  pub over : (first_block_of (suc depth) (offset / 2) < from) ⊎ (to < end_block_of (suc depth) (offset / 2))

-- one of the trees ends with the same block as the subtree and is no larger
pub record EndsWithOne (trees : List Subtree) (depth offset : ℕ) : Type 0 where
  pub tree : Subtree
  pub is_one : Contains trees tree
  pub lower : tree.depth ≤ depth
  pub ends : end_block_of depth offset ≡ end_block_of tree.depth tree.offset
