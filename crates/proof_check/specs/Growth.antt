-- How a log's roots grow into those of a longer one: the node over its last block is joined, level by level, with a root on its left
-- or with a subtree of the new part on its right.
use Rattle.std.specs.Prelude.{◌≡◌, ℕ, suc, Bool, true, false, ◌+◌, ◌-◌, ◌*◌, ◌/◌, ◌^◌, ◌<◌, ◌≤◌, List, [], ◌∷◌, Option, Some, None, length, map, slice_get}
use Rattle.std.specs.List.{AllByRecursion}
use Rattle.flat_tree.specs.Subtrees.{Subtree, subtree, numbers_of, first_block_of, end_block_of}
use Rattle.flat_tree.specs.Roots.{full_roots_of, depth_over}
use Rattle.flat_tree.specs.declared.limits.TheConstants.{MAX_CORE_BYTES, MAX_NODE}
use Rattle.merkle_nodes.specs.declared.node.Node.{Node}
use Rattle.merkle_nodes.specs.Joined.{Values, parent_if}
use Rattle.merkle_nodes.specs.Nodes.{node_in, AreNodes}
use Rattle.merkle_nodes.specs.Roots.{HasShape}
use Rattle.proof_check.specs.declared.upgrade.Joined.{Joined}
use Rattle.proof_check.specs.declared.held.Known.{Known}
use Rattle.node_set.specs.Closure.{any_under, IsFullRoot}
use Rattle.merkle_nodes.specs.declared.node.Twig.{Twig}

-- no more bytes than a core has
abbrev pub SizeFits : Node → Type 0
SizeFits node = node.size ≤ MAX_CORE_BYTES

-- a number whose parent and sibling have one
abbrev pub HasPlace : Node → Type 0
HasPlace node = node.index ≤ MAX_NODE

-- the offset at a level over the last of so many blocks
abbrev pub last_over : ℕ → ℕ → ℕ
last_over base level = (base - 1) / 2 ^ level

-- the nodes stand at these subtrees
abbrev pub AreAt : List Subtree → List Node → Type 0
AreAt trees nodes = map (λ (node : Node). node.index) nodes ≡ numbers_of trees

-- a subtree over the end of the shorter log has the parent of its halves as value
abbrev pub Joins : ℕ → ℕ → Values → Type 0
Joins base to value = (depth offset : ℕ) → first_block_of (suc depth) offset < base → base < end_block_of (suc depth) offset
    → end_block_of (suc depth) offset ≤ to → value (suc depth) offset ≡ parent_if (value depth (2 * offset)) (value depth (2 * offset + 1))

-- the two halves at a level below the root that is over the shorter log's last block in the longer one
pub record AreHalves (base : ℕ) (value : Values) (low : ℕ) (lefts rights : List Node) (level : ℕ) : Type 0 where
  pub at_left : slice_get lefts (level - low) ≡ node_in value (subtree level (2 * last_over base (suc level)))
  pub at_right : slice_get rights (level - low) ≡ node_in value (subtree level (2 * last_over base (suc level) + 1))

-- the lists have a node for each level from that of the shorter log's last root up
pub record IsJoined (base to : ℕ) (j : Joined) : Type 0 where
  pub shape : HasShape j.roots to
  pub sizes : AllByRecursion SizeFits j.roots
  pub low : 0 < base → j.low ≡ depth_over base (base - 1)
  pub none : base ≡ 0 → j.lefts ≡ []
  pub left_places : AllByRecursion HasPlace j.lefts
  pub right_places : AllByRecursion HasPlace j.rights
  pub lefts : j.low + length j.lefts ≡ depth_over to (base - 1)
  pub rights : j.low + length j.rights ≡ depth_over to (base - 1)

-- they have these values
pub record HasJoined (base to : ℕ) (value : Values) (j : Joined) : Type 0 where
  pub at_roots : AreNodes value (full_roots_of to) j.roots
  pub at_halves : (level : ℕ) → j.low ≤ level → level < depth_over to (base - 1) → AreHalves base value j.low j.lefts j.rights level

-- twigs with these numbers
unfoldable pub nodes_at : List ℕ → List Twig → List Node
nodes_at (index ∷ places) (twig ∷ twigs) = record { index = index; size = twig.size; hash = twig.hash } ∷ nodes_at places twigs
nodes_at _ _ = []

-- the values of subtrees are these
abbrev pub AreValues : Values → List Subtree → List Twig → Type 0
AreValues value trees twigs = map Some twigs ≡ map (λ (tree : Subtree). value tree.depth tree.offset) trees

-- the first level from one on whose subtree above, over the last of so many blocks, is over a held block; or the top
pub record IsFirstHeld (base : ℕ) (held : ℕ → Bool) (low top first : ℕ) : Type 0 where
  pub low_is : low ≤ first
  pub within : first ≤ top
  pub none : (level : ℕ) → low ≤ level → level < first → any_under held (suc level) (last_over base (suc level)) ≡ false
  pub some : first < top → any_under held (suc first) (last_over base (suc first)) ≡ true

-- what is known of a root before: whether a block under the one over this index is held
abbrev pub KnowsHeld : ℕ → (ℕ → Bool) → Option Known → Type 0
KnowsHeld n held None = Unit {0}
KnowsHeld n held (Some known) = (depth offset : ℕ) → IsFullRoot n depth offset → known.index / 2 ^ depth ≡ offset → known.is_held ≡ any_under held depth offset

-- the level's subtree over the index is one of a joined pair: its parent is over the end of the shorter log
pub record IsBeside (base low index level : ℕ) : Type 0 where
  pub low_is : low ≤ level
  pub same : last_over base (suc level) ≡ index / 2 ^ suc level
