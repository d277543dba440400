-- What a batch stands for: a log that is known by its roots, and blocks that were pushed behind it.
use Rattle.std.specs.Prelude.{◌≡◌, ℕ, ◌+◌, ◌/◌, ◌^◌, ◌≤◌, List, [], ◌∷◌, ◌++◌, length, map}
use Rattle.std.specs.List.{flat_map, range_with_len, sum_by}
use Rattle.std.specs.Int.{w64, trailing_ones}
use Rattle.flat_tree.specs.Subtrees.{Subtree, subtree}
use Rattle.flat_tree.specs.Roots.{full_roots_of}
use Rattle.flat_tree.specs.declared.limits.TheConstants.{MAX_CORE_BYTES}
use Rattle.merkle_nodes.specs.declared.node.Node.{Node}
use Rattle.merkle_nodes.specs.Tree.{tree_of}
use Rattle.merkle_nodes.specs.Roots.{node_of}
use Rattle.merkle_nodes.specs.Joined.{Values, joined, with_blocks}
use Rattle.merkle_nodes.specs.Nodes.{AreNodes, bytes_under}

-- the subtrees that end with a block, from the leaf upward: the leaf, and one for each one bit that the block's number
-- ends in
abbrev pub ending_with : ℕ → List Subtree
ending_with block = map (λ depth. subtree depth (block / 2 ^ depth)) (range_with_len 0 (trailing_ones w64 block + 1))

-- the subtrees that become full with so many blocks from an index on, block by block
abbrev pub made_with : ℕ → ℕ → List Subtree
made_with start count = flat_map ending_with (range_with_len start count)

-- the nodes of a log's perfect subtrees, in order of making
abbrev pub nodes_of : List (List ℕ) → List Node
nodes_of log = map (λ (tree : Subtree). node_of tree.depth tree.offset (tree_of log tree.depth tree.offset)) (made_with 0 (length log))

-- no more bytes than a core has
abbrev pub SizeFits : Node → Type 0
SizeFits node = node.size ≤ MAX_CORE_BYTES

-- the bytes of some blocks
abbrev pub bytes_of : List (List ℕ) → ℕ
bytes_of = sum_by length

-- a batch: how many blocks it has memory for, the length of the log that it stands on, how many blocks it has and their
-- bytes, the roots of the log with them, and every node that became full, in order of making
pub record BatchView : Type 0 where
  pub room : ℕ
  pub base : ℕ
  pub blocks : ℕ
  pub bytes : ℕ
  pub roots : List Node
  pub nodes : List Node

-- the values of the log with some blocks behind its first ones, whose subtrees have the known values
abbrev pub grown : ℕ → Values → List (List ℕ) → Values
grown base known blocks = joined (with_blocks base known blocks)

-- the batch has these blocks, behind a log whose subtrees have the known values
pub record HasBlocks (known : Values) (blocks : List (List ℕ)) (batch : BatchView) : Type 0 where
  pub count : batch.blocks ≡ length blocks
  pub bytes : batch.bytes ≡ bytes_of blocks
  pub roots : AreNodes (grown batch.base known blocks) (full_roots_of (batch.base + length blocks)) batch.roots
  pub nodes : AreNodes (grown batch.base known blocks) (made_with batch.base (length blocks)) batch.nodes

-- the batch without blocks, behind a log of so many blocks with these roots
abbrev pub empty_on : ℕ → ℕ → List Node → BatchView
empty_on room base roots = record { room = room; base = base; blocks = 0; bytes = 0; roots = roots; nodes = [] }

-- the batch has one block more, behind the same log
pub record PushesBlock (block : List ℕ) (old new : BatchView) : Type 0 where
  pub room : new.room ≡ old.room
  pub base : new.base ≡ old.base
  pub blocks : new.blocks ≡ old.blocks + 1
  pub bytes : new.bytes ≡ old.bytes + length block
  pub total : bytes_under new.roots ≡ bytes_under old.roots + length block
  pub held : (known : Values) → (held : List (List ℕ)) → HasBlocks known held old → HasBlocks known (held ++ block ∷ []) new
