-- The way up from a held block's leaf: what is there of it, and what it makes.
use Rattle.std.specs.Prelude.{◌≡◌, ℕ, ◌≤◌, ◌/◌, ◌^◌, true, IsTrue, List, Some}
use Rattle.flat_tree.specs.Subtrees.{number, end_block_of}
use Rattle.flat_tree.specs.declared.limits.TheConstants.{MAX_BLOCKS}
use Rattle.merkle_nodes.specs.declared.node.Node.{Node}
use Rattle.merkle_nodes.specs.declared.node.Twig.{Twig}
use Rattle.merkle_nodes.specs.Roots.{twig_of}
use Rattle.node_set.specs.Contents.{held, Values, twig_at}
use Rattle.node_set.specs.Paths.{trail_at}
use Rattle.node_set.specs.Whole.{IsSound}
use Rattle.node_set.specs.Walks.{IsInTree}
use Rattle.node_set.specs.Views.{ViewState}

-- the way up from a held block's leaf to a subtree within the length
pub record IsWayUp (v : ViewState) (index levels : ℕ) : Type 0 where
  pub is_held : held v.content index ≡ true
  pub fits : IsInTree index levels
  pub inside : end_block_of levels (index / 2 ^ levels) ≤ v.content.length
  pub few : v.content.length ≤ MAX_BLOCKS
  pub sound : IsTrue v.stands → IsSound v.content

-- the node stands over a block, so many levels above its leaf, and a view that stands or shows its content has it there
pub record IsStoredOver (v : ViewState) (index levels : ℕ) (root : Node) : Type 0 where
  pub numbered : root.index ≡ number levels (index / 2 ^ levels)
  pub stored : IsTrue v.stands → v.content.node levels (index / 2 ^ levels) ≡ Some (twig_of root)
  pub shown : IsTrue v.shows → twig_at v.content.node levels (index / 2 ^ levels) ≡ twig_of root

-- the trail is that of the stored nodes, and the top is the stored node over the block
pub record IsHonestTop (node : Values) (index levels : ℕ) (trail : List Twig) (top : Node) : Type 0 where
  pub trail_is : trail ≡ trail_at node 0 index levels
  pub top_is : node levels (index / 2 ^ levels) ≡ Some (twig_of top)
