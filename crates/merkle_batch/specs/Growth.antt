-- What a new leaf adds to the roots and nodes of a log.
use Rattle.std.specs.Prelude.{◌≡◌, ℕ, suc, ◌+◌, ◌*◌, ◌≤◌, Some, List, ◌++◌, length, Vec, vec_capacity}
use Rattle.std.specs.List.{AllByRecursion}
use Rattle.std.specs.declared.alloc.Global.{Global}
use Rattle.flat_tree.specs.Subtrees.{Subtree, end_block_of}
use Rattle.flat_tree.specs.Roots.{full_roots_of}
use Rattle.merkle_nodes.specs.declared.node.Node.{Node}
use Rattle.merkle_nodes.specs.Roots.{twig_of, HasShape}
use Rattle.merkle_nodes.specs.Joined.{Values, parent_if}
use Rattle.merkle_nodes.specs.Nodes.{AreNodes, bytes_under}
use Rattle.merkle_batch.specs.Batch.{ending_with, SizeFits}

-- each subtree that ends with the block, but its leaf, has the parent of its halves as value
abbrev pub JoinsAt : Values → ℕ → Type 0
JoinsAt values block =
    (depth offset : ℕ) → end_block_of (suc depth) offset ≡ block + 1
    → values (suc depth) offset ≡ parent_if (values depth (2 * offset)) (values depth (2 * offset + 1))

-- these are the roots of so many blocks, and the nodes of these subtrees
pub record AreOf (values : Values) (blocks : ℕ) (trees : List Subtree) (roots nodes : List Node) : Type 0 where
  pub at_roots : AreNodes values (full_roots_of blocks) roots
  pub at_nodes : AreNodes values trees nodes

-- with this leaf behind so many blocks the old roots and nodes become the new ones
abbrev pub AddsLeaf : Values → List Subtree → ℕ → Node → List Node → List Node → List Node → List Node → Type 0
AddsLeaf values trees block leaf old_roots new_roots old_nodes new_nodes =
    JoinsAt values block → values 0 block ≡ Some (twig_of leaf) → AreOf values block trees old_roots old_nodes
    → AreOf values (block + 1) (trees ++ ending_with block) new_roots new_nodes

-- the leaf of the block was added to the roots and nodes, with each parent that became full
pub record Grows (block : ℕ) (leaf : Node) (old_roots roots : List Node) (old_nodes nodes : Vec Node Global) : Type 0 where
  pub shape : HasShape roots (block + 1)
  pub bytes : bytes_under roots ≡ bytes_under old_roots + leaf.size
  pub many : length nodes.items + length roots ≡ length old_nodes.items + length old_roots + 2
  pub memory : vec_capacity old_nodes ≤ vec_capacity nodes
  pub roots_fit : AllByRecursion SizeFits roots
  pub nodes_fit : AllByRecursion SizeFits old_nodes.items → AllByRecursion SizeFits nodes.items
