-- What a read over a view gives, and why it fails.
use Rattle.std.specs.Prelude.{◌≡◌, ◌≢◌, ℕ, zero, suc, true, ◌/◌, ◌^◌, ◌≤◌, ◌⊎◌, List, [], ◌∷◌, ◌++◌, take}
use Rattle.flat_tree.specs.Subtrees.{number, end_block_of}
use Rattle.flat_tree.specs.Roots.{depth_over}
use Rattle.flat_tree.specs.declared.limits.TheConstants.{MAX_BLOCKS}
use Rattle.merkle_nodes.specs.declared.node.Node.{Node}
use Rattle.merkle_nodes.specs.declared.node.Twig.{Twig}
use Rattle.merkle_nodes.specs.Tree.{leaf_of}
use Rattle.merkle_nodes.specs.Roots.{twig_of}
use Rattle.merkle_nodes.specs.Fold.{fold, IsRootOver}
use Rattle.node_set.specs.declared.fault.CoreFault.{CoreFault}
use Rattle.node_set.specs.declared.fault.CoreFault.TheVariants.{Damaged}
use Rattle.node_set.specs.declared.fault.Place.TheVariants.{Leaf, Node as AtNode}
use Rattle.node_set.specs.Contents.{held}
use Rattle.node_set.specs.Paths.{sibling_of}
use Rattle.node_set.specs.Walks.{IsInTree}
use Rattle.core_snap.specs.declared.snapshot.ReadAt.{ReadAt}
use Rattle.log_view.specs.Views.{Source, IsStored, GivesNode, GivesBlock}

-- the path of a held block up to a subtree within the length
pub record IsPathUp (s : Source) (index levels : ℕ) : Type 0 where
  pub is_held : held s.content index ≡ true
  pub fits : IsInTree index levels
  pub inside : end_block_of levels (index / 2 ^ levels) ≤ s.content.length
  pub few : s.content.length ≤ MAX_BLOCKS

-- the trail is of the siblings that the view gives for the lowest levels of a block's path
unfoldable pub GivesTrail : Source → ℕ → ℕ → List Twig → Type 0
GivesTrail s index zero trail = trail ≡ []
GivesTrail s index (suc level) trail =
    (lower : List Twig) × (node : Node) × GivesTrail s index level lower
    × GivesNode s (number level (sibling_of (index / 2 ^ level))) node × (trail ≡ lower ++ twig_of node ∷ [])

-- the leaf that the view gives is that of the block at the front of the buffer
pub record GivesLeaf (s : Source) (index : ℕ) (buffer : List ℕ) (len : ℕ) (leaf : Node) : Type 0 where
  pub block : GivesBlock s index buffer len
  pub given : GivesNode s (number 0 index) leaf
  pub same : twig_of leaf ≡ leaf_of (take len buffer)

-- the view gives the block that was read, its leaf, and the siblings of its path
pub record GivesRead (s : Source) (index levels : ℕ) (buffer : List ℕ) (read : ReadAt) : Type 0 where
  pub leaf : Node
  pub is_leaf : GivesLeaf s index buffer read.len leaf
  pub siblings : GivesTrail s index levels read.trail

-- the leaf that the view gave isn't that of the block that it gave
pub record LeafDiffers (s : Source) (index : ℕ) (buffer : List ℕ) (fault : CoreFault) : Type 0 where
  pub kept : Node
  pub len : ℕ
  pub block : GivesBlock s index buffer len
  pub given : GivesNode s (number 0 index) kept
  pub differs : twig_of kept ≢ leaf_of (take len buffer)
  pub fault_is : fault ≡ Damaged (Leaf index) kept.hash (leaf_of (take len buffer)).hash

-- the root over the block isn't what the block and the siblings that the view gave fold to
pub record RootDiffers (s : Source) (root : Node) (levels index : ℕ) (buffer : List ℕ) (fault : CoreFault) : Type 0 where
  pub read : ReadAt
  pub gives : GivesRead s index levels buffer read
  pub differs : fold index (take read.len buffer) read.trail ≢ twig_of root
  pub fault_is : fault ≡ Damaged (AtNode root.index) root.hash (fold index (take read.len buffer) read.trail).hash

-- what the view gave differs at the leaf, or at the root over the index among the roots of so many blocks
abbrev pub IsDamage : Source → List Node → ℕ → ℕ → List ℕ → CoreFault → Type 0
IsDamage s roots blocks index buffer fault = LeafDiffers s index buffer fault
    ⊎ ((root : Node) × IsRootOver roots blocks index root × RootDiffers s root (depth_over blocks index) index buffer fault)

-- a root isn't to be stored for the view, or the view gave another node for it
abbrev pub LacksRoot : Source → Node → Type 0
LacksRoot s root = (IsStored s root.index → ⊥) ⊎ ((node : Node) × GivesNode s root.index node × (twig_of node ≢ twig_of root))

-- the view lacks the root over an index among the roots of so many blocks
abbrev pub LacksRootOver : Source → List Node → ℕ → ℕ → Type 0
LacksRootOver s roots blocks index = (root : Node) × IsRootOver roots blocks index root × LacksRoot s root

-- the view gave a root's node, as it is
abbrev pub HasRoot : Source → Node → Type 0
HasRoot s root = (node : Node) × GivesNode s root.index node × (twig_of node ≡ twig_of root)

-- the view gave the root over an index among the roots of so many blocks
abbrev pub HasRootOver : Source → List Node → ℕ → ℕ → Type 0
HasRootOver s roots blocks index = (root : Node) × IsRootOver roots blocks index root × HasRoot s root
