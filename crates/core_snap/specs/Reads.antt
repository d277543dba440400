-- What a content answers under a head that was taken before: the block, where it and the snapshot's root over it are still there.
use Rattle.std.specs.Prelude.{◌≡◌, ℕ, Bool, true, false, ◌/◌, ◌^◌, ◌⊎◌, List, Option, Some, None, Result, Ok, Err, nat_lt, slice_get, if◌then◌else◌}
use Rattle.flat_tree.specs.Roots.{place_over, depth_over}
use Rattle.merkle_nodes.specs.declared.node.Node.{Node}
use Rattle.merkle_nodes.specs.declared.node.Twig.{Twig}
use Rattle.merkle_nodes.specs.Tree.{leaf_of}
use Rattle.merkle_nodes.specs.Fold.{fold}
use Rattle.merkle_nodes.specs.Roots.{twig_of}
use Rattle.merkle_nodes.specs.Sound.{Clash, path_inputs}
use Rattle.node_set.specs.declared.fault.CoreFault.{CoreFault}
use Rattle.node_set.specs.declared.fault.CoreFault.TheVariants.{OutOfRange, Unavailable, Damaged}
use Rattle.node_set.specs.declared.fault.Place.TheVariants.{Leaf as AtLeaf, Node as AtNode}
use Rattle.node_set.specs.Contents.{Content, twig_at, node_at}
use Rattle.node_set.specs.Paths.{trail_at}
use Rattle.node_set.specs.Same.{is_same, is_stored_as}
use Rattle.core_snap.specs.declared.snapshot.Snapshot.{Snapshot}

-- a block and the siblings of its path
pub record Answer : Type 0 where
  pub block : List ℕ
  pub trail : List Twig

-- the content stores the snapshot's root over the index, as it was
abbrev pub has_root_over : Content → Snapshot → ℕ → Bool
has_root_over m snap index = IsStored (slice_get snap.roots (place_over snap.length index))
  where
    IsStored : Option Node → Bool
    IsStored None = false
    IsStored (Some root) = is_stored_as (m.node (depth_over snap.length index) (index / 2 ^ depth_over snap.length index)) (twig_of root)

-- a block that is held, with its path up to the snapshot's root, where that is stored; else it is unavailable
abbrev pub answer_if : Bool → Option (List ℕ) → List Twig → ℕ → Result Answer CoreFault
answer_if true (Some block) trail index = Ok (record { block = block; trail = trail })
answer_if _ _ trail index = Err (Unavailable index)

-- what a read of an index under a snapshot answers
abbrev pub snap_read : Content → Snapshot → ℕ → Result Answer CoreFault
snap_read m snap index =
    if nat_lt index snap.length
    then answer_if (has_root_over m snap index) (m.block index) (trail_at m.node 0 index (depth_over snap.length index)) index
    else Err (OutOfRange snap.length)

-- what a read of an index under the content's own head answers
abbrev pub get_of : Content → ℕ → Result Answer CoreFault
get_of m index =
    if nat_lt index m.length
    then answer_if true (m.block index) (trail_at m.node 0 index (depth_over m.length index)) index
    else Err (OutOfRange m.length)

-- ---- what is kept may not agree

-- a block that is read with its leaf and the siblings of its path is checked: the leaf is to be the block's, and all is to fold to
-- the root over it; where one differs it is told with the hash that is kept and the one that was recomputed
abbrev pub checked_read : Node → Twig → List Twig → ℕ → List ℕ → Result Answer CoreFault
checked_read root leaf trail index block =
    if is_same leaf (leaf_of block)
    then if is_same (fold index block trail) (twig_of root)
    then Ok (record { block = block; trail = trail })
    else Err (Damaged (AtNode root.index) root.hash (fold index block trail).hash)
    else Err (Damaged (AtLeaf index) leaf.hash (leaf_of block).hash)

-- what a content answers up to a root over an index, where its nodes and blocks may not agree
abbrev pub read_over : Content → Node → ℕ → ℕ → Result Answer CoreFault
read_over m root levels index = CheckedIn (m.block index)
  where
    CheckedIn : Option (List ℕ) → Result Answer CoreFault
    CheckedIn None = Err (Unavailable index)
    CheckedIn (Some block) = checked_read root (twig_at m.node 0 index) (trail_at m.node 0 index levels) index block

-- what it answers under its own head
abbrev pub read_of : Content → ℕ → Result Answer CoreFault
read_of m index =
    let levels = depth_over m.length index in
    if nat_lt index m.length
    then read_over m (node_at m.node levels (index / 2 ^ levels)) levels index
    else Err (OutOfRange m.length)

-- two reads of one index under one snapshot give one block, or two different inputs of equal hash are in hand
abbrev pub SameRead : Snapshot → ℕ → Answer → Answer → Type 0
SameRead snap index one other = (one.block ≡ other.block)
    ⊎ Clash (path_inputs snap.roots index one.block one.trail) (path_inputs snap.roots index other.block other.trail)
