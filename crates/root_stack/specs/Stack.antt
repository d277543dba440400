-- The full roots of a log as a stack of nodes with falling depths: what it has when a subtree is pushed, and the nodes
-- that are made on the way.
use Rattle.std.specs.Prelude.{◌≡◌, ℕ, suc, ◌+◌, ◌*◌, ◌≤◌, Some, List, ◌++◌, length, map, sum_by}
use Rattle.std.specs.List.{AllByRecursion}
use Rattle.flat_tree.specs.Subtrees.{Subtree, number, first_block_of, end_block_of}
use Rattle.flat_tree.specs.Roots.{full_roots_of}
use Rattle.flat_tree.specs.declared.limits.TheConstants.{MAX_BLOCKS, MAX_CORE_BYTES}
use Rattle.merkle_nodes.specs.declared.node.Node.{Node}
use Rattle.merkle_nodes.specs.declared.node.Twig.{Twig}
use Rattle.merkle_nodes.specs.Roots.{twig_of, HasShape}
use Rattle.merkle_nodes.specs.Joined.{Values, parent_if}
use Rattle.merkle_nodes.specs.Nodes.{AreNodes, bytes_under}
use Rattle.root_stack.specs.Made.{ending_with}

-- no more bytes than a core has
abbrev pub SizeFits : Node → Type 0
SizeFits node = node.size ≤ MAX_CORE_BYTES

-- the bytes under some twigs
abbrev pub twig_bytes : List Twig → ℕ
twig_bytes = sum_by (λ (twig : Twig). twig.size)

-- each larger subtree that ends with the tree has the parent of its halves as value
abbrev pub JoinsAt : Values → Subtree → Type 0
JoinsAt values tree =
    (depth offset : ℕ) → tree.depth ≤ depth → end_block_of (suc depth) offset ≡ end_block_of tree.depth tree.offset
    → values (suc depth) offset ≡ parent_if (values depth (2 * offset)) (values depth (2 * offset + 1))

-- so it is at each of some trees
abbrev pub Joins : Values → List Subtree → Type 0
Joins values = AllByRecursion (JoinsAt values)

-- the twigs are the values of the trees, in order
abbrev pub AreValues : Values → List Subtree → List Twig → Type 0
AreValues values trees twigs = map Some twigs ≡ map (λ (tree : Subtree). values tree.depth tree.offset) trees

-- the values are the twigs at the trees, and join wherever a subtree becomes full with them
pub record AreJoined (values : Values) (trees : List Subtree) (twigs : List Twig) : Type 0 where
  pub joins : Joins values trees
  pub at_trees : AreValues values trees twigs

-- these are the roots of so many blocks, and the nodes of these trees
pub record AreOf (values : Values) (blocks : ℕ) (trees : List Subtree) (roots made : List Node) : Type 0 where
  pub at_roots : AreNodes values (full_roots_of blocks) roots
  pub at_made : AreNodes values trees made

-- the node is the tree's, which begins where the log of these roots ends
pub record IsNext (tree : Subtree) (node : Node) (roots : List Node) : Type 0 where
  pub index : node.index ≡ number tree.depth tree.offset
  pub shape : HasShape roots (first_block_of tree.depth tree.offset)
  pub within : end_block_of tree.depth tree.offset ≤ MAX_BLOCKS

-- with the tree's node behind the old roots they become the new ones, and the trees that become full were made
abbrev pub AddsTree : Values → List Subtree → Subtree → Node → List Node → List Node → List Node → List Node → Type 0
AddsTree values trees tree node old_roots new_roots old_made new_made =
    JoinsAt values tree → values tree.depth tree.offset ≡ Some (twig_of node)
    → AreOf values (first_block_of tree.depth tree.offset) trees old_roots old_made
    → AreOf values (end_block_of tree.depth tree.offset) (trees ++ ending_with tree) new_roots new_made

-- so many nodes of so many bytes were pushed, up to the roots of so many blocks: each push made its node, and one for each root
-- that it took away
pub record Grows (blocks size count : ℕ) (old_roots roots old_made made : List Node) : Type 0 where
  pub shape : HasShape roots blocks
  pub bytes : bytes_under roots ≡ bytes_under old_roots + size
  pub many : length made + length roots ≡ length old_made + length old_roots + 2 * count
  pub roots_fit : AllByRecursion SizeFits roots
  pub made_fit : AllByRecursion SizeFits old_made → AllByRecursion SizeFits made
