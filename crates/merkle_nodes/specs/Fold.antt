-- The way from a block to the root over it, along the siblings of its path.
use Rattle.std.specs.Prelude.{◌≡◌, ℕ, ◌/◌, ◌%◌, ◌==◌, ◌<◌, List, [], ◌∷◌, length, if◌then◌else◌, slice_get, Some}
use Rattle.flat_tree.specs.Roots.{place_over, depth_over}
use Rattle.merkle_nodes.specs.declared.node.Node.{Node}
use Rattle.merkle_nodes.specs.declared.node.Twig.{Twig}
use Rattle.merkle_nodes.specs.Tree.{leaf_of, parent_of}
use Rattle.merkle_nodes.specs.Roots.{twig_of, HasShape}

-- the parent of the node at this offset and its sibling, which stands left exactly where the node is a right child
abbrev pub join : ℕ → Twig → Twig → Twig
join offset node sibling = if offset % 2 == 1 then parent_of sibling node else parent_of node sibling

-- the top of a path from the node at this offset, whose siblings are these, lowest first
unfoldable pub fold_from : ℕ → Twig → List Twig → Twig
fold_from offset node [] = node
fold_from offset node (sibling ∷ trail) = fold_from (offset / 2) (join offset node sibling) trail

-- the top of a block's path
abbrev pub fold : ℕ → List ℕ → List Twig → Twig
fold index block trail = fold_from index (leaf_of block) trail

-- the offset of the top, so many levels above
unfoldable pub offset_above : ℕ → List Twig → ℕ
offset_above offset [] = offset
offset_above offset (sibling ∷ trail) = offset_above (offset / 2) trail

-- the root over a block, among the roots of so many blocks
abbrev pub IsRootOver : List Node → ℕ → ℕ → Node → Type 0
IsRootOver roots blocks index root = slice_get roots (place_over blocks index) ≡ Some root

-- the trail proves the block at this index under these roots
pub record Proves (blocks : ℕ) (roots : List Node) (index : ℕ) (block : List ℕ) (trail : List Twig) : Type 0 where
  pub within : index < blocks
  pub shape : HasShape roots blocks
  pub path : length trail ≡ depth_over blocks index
  pub root : Node
  pub over : IsRootOver roots blocks index root
  pub folds : fold index block trail ≡ twig_of root
