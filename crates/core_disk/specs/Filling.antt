-- The nodes that are read of the tree area when a core's disk is opened (docs/FORMATS.md, "The change file").
use Rattle.std.specs.Prelude.{◌≡◌, ℕ, ◌*◌, ◌<◌, ◌≤◌, Bool, true, false, not, is_some, ◌&&◌, nat_eq, nat_lt, List, Some, Result, Ok, Err, ⊤, if◌then◌else◌}
use Rattle.flat_tree.specs.declared.limits.TheConstants.{MAX_CORE_BYTES}
use Rattle.flat_tree.specs.Subtrees.{number}
use Rattle.disk_trait.specs.declared.disk.Area.TheVariants.{Tree}
use Rattle.merkle_nodes.specs.declared.node.Twig.{Twig}
use Rattle.merkle_nodes.specs.declared.node.Node.{Node}
use Rattle.merkle_nodes.specs.Joined.{Values, or_value}
use Rattle.merkle_nodes.specs.Roots.{twig_of}
use Rattle.node_set.specs.declared.fault.CoreFault.{CoreFault}
use Rattle.node_set.specs.declared.fault.CoreFault.TheVariants.{Memory, StoreFault, BadStore}
use Rattle.node_set.specs.Contents.{twig_at}
use Rattle.node_set.specs.Closure.{in_closure}
use Rattle.node_set.specs.Nodes.{with_nodes}
use Rattle.core_disk.specs.declared.layout.TheConstants.{NODE_BYTES}
use Rattle.core_disk.specs.declared.replay.TheConstants.{MAX_NODES}
use Rattle.core_disk.specs.Opened.{Opened}
use Rattle.core_disk.specs.Areas.{read_at, twig_from, tree_values}

-- the same with the nodes of a tree area under its own
abbrev pub over_tree : List ℕ → Opened → Opened
over_tree tree o = record {
  head = o.head;
  roots = o.roots;
  held = o.held;
  nodes = λ depth offset. or_value (o.nodes depth offset) (tree_values tree depth offset);
}

-- the nodes, with the roots over them
abbrev pub rooted : Opened → Values
rooted o = with_nodes o.nodes o.roots

-- the node is to be stored, and its size is larger than a core's
abbrev pub is_too_large : Opened → ℕ → ℕ → Bool
is_too_large o depth offset = in_closure o.head.length o.held depth offset && nat_lt MAX_CORE_BYTES (twig_at (rooted o) depth offset).size

-- of the nodes that are too large the one of the lowest number stands at this place of the tree area
pub record IsFirstLarge (o : Opened) (at : ℕ) : Type 0 where
  pub depth : ℕ
  pub offset : ℕ
  pub at_is : at ≡ NODE_BYTES * number depth offset
  pub large : is_too_large o depth offset ≡ true
  pub first : (d p : ℕ) → number d p < number depth offset → is_too_large o d p ≡ false

-- in memory is what was opened, with each node that is to be stored, the roots over them; none is too large
pub record IsFilled (o new : Opened) : Type 0 where
  pub head : new.head ≡ o.head
  pub roots : new.roots ≡ o.roots
  pub held : (index : ℕ) → new.held index ≡ o.held index
  pub nodes : (depth offset : ℕ) → in_closure o.head.length o.held depth offset ≡ true → new.nodes depth offset ≡ rooted o depth offset
  pub small : (depth offset : ℕ) → is_too_large o depth offset ≡ false

-- the nodes that lack are there, or the place of the first that is too large is told. A fault of the outside and want of memory
-- tell nothing
abbrev pub Fills : List ℕ → Opened → Opened → Result (Unit {0}) CoreFault → Type 0
Fills tree old new (Ok _) = IsFilled (over_tree tree old) new
Fills tree old new (Err Memory) = ⊤
Fills tree old new (Err StoreFault) = ⊤
Fills tree old new (Err (BadStore area at)) = (area ≡ Tree) × IsFirstLarge (over_tree tree old) at
Fills tree old new (Err other) = ⊥

-- no node whose number a core may have is larger than a core
abbrev pub AreSmall : Values → Type 0
AreSmall values = (depth offset : ℕ) (twig : Twig) → number depth offset < MAX_NODES → values depth offset ≡ Some twig → twig.size ≤ MAX_CORE_BYTES

-- what has a value keeps it
abbrev pub KeepsValues : Values → Values → Type 0
KeepsValues old new = (depth offset : ℕ) (twig : Twig) → old depth offset ≡ Some twig → new depth offset ≡ Some twig

-- ---- one node after the other

-- the node of a number in a tree area
abbrev pub tree_twig : List ℕ → ℕ → Twig
tree_twig tree index = twig_from (read_at tree (NODE_BYTES * index) NODE_BYTES)

-- the node itself, where its size is no larger than a core's, and else this place of the tree area
abbrev pub ChecksSize : ℕ → Node → Result Node CoreFault → Type 0
ChecksSize at node (Ok same) = (same ≡ node) × (node.size ≤ MAX_CORE_BYTES)
ChecksSize at node (Err (BadStore area place)) = (area ≡ Tree) × (place ≡ at) × (MAX_CORE_BYTES < node.size)
ChecksSize at node (Err other) = ⊥

-- the node is read, or the place is told where its size is larger than a core's
abbrev pub ReadsNode : List ℕ → ℕ → Result Node CoreFault → Type 0
ReadsNode tree index (Ok node) = (node.index ≡ index) × (twig_of node ≡ tree_twig tree index) × (node.size ≤ MAX_CORE_BYTES)
ReadsNode tree index (Err StoreFault) = ⊤
ReadsNode tree index (Err (BadStore area at)) = (area ≡ Tree) × (at ≡ NODE_BYTES * index) × (MAX_CORE_BYTES < (tree_twig tree index).size)
ReadsNode tree index (Err other) = ⊥

-- the node is to be stored, and isn't there
abbrev pub is_lacking : ℕ → (ℕ → Bool) → Values → ℕ → ℕ → Bool
is_lacking n held value depth offset = in_closure n held depth offset && not (is_some (value depth offset))

-- the values, but the tree area's of the lacking node of this number
abbrev pub filled_at : List ℕ → ℕ → (ℕ → Bool) → ℕ → Values → Values
filled_at tree n held index value depth offset =
    if nat_eq index (number depth offset) && is_lacking n held value depth offset then tree_values tree depth offset else value depth offset

-- the values, but the tree area's of the lacking nodes of lower numbers
abbrev pub filled_below : List ℕ → ℕ → (ℕ → Bool) → ℕ → Values → Values
filled_below tree n held end value depth offset =
    if nat_lt (number depth offset) end && is_lacking n held value depth offset then tree_values tree depth offset else value depth offset

-- no lacking node of a lower number is larger than a core
abbrev pub LackSmall : List ℕ → ℕ → (ℕ → Bool) → ℕ → Values → Type 0
LackSmall tree n held end value =
    (depth offset : ℕ) → number depth offset < end → is_lacking n held value depth offset ≡ true → (tree_twig tree (number depth offset)).size ≤ MAX_CORE_BYTES

-- a lacking node is larger than a core, and stands at this place of the tree area
pub record LacksLarge (tree : List ℕ) (n : ℕ) (held : ℕ → Bool) (index : ℕ) (value : Values) (at : ℕ) : Type 0 where
  pub lacking : (depth offset : ℕ) → number depth offset ≡ index → is_lacking n held value depth offset ≡ true
  pub large : MAX_CORE_BYTES < (tree_twig tree index).size
  pub at_is : at ≡ NODE_BYTES * index

-- the node of a number is there where it is to be stored, or is told as too large
abbrev pub FillsAt : List ℕ → ℕ → (ℕ → Bool) → ℕ → Values → Values → Result (Unit {0}) CoreFault → Type 0
FillsAt tree n held index old new (Ok _) =
    ((depth offset : ℕ) → new depth offset ≡ filled_at tree n held index old depth offset)
    × ((depth offset : ℕ) → number depth offset ≡ index → is_lacking n held old depth offset ≡ true → (tree_twig tree index).size ≤ MAX_CORE_BYTES)
FillsAt tree n held index old new (Err Memory) = ⊤
FillsAt tree n held index old new (Err StoreFault) = ⊤
FillsAt tree n held index old new (Err (BadStore area at)) = (area ≡ Tree) × LacksLarge tree n held index old at
FillsAt tree n held index old new (Err other) = ⊥

-- the nodes of lower numbers are there where they are to be stored
pub record HasFilled (tree : List ℕ) (n : ℕ) (held : ℕ → Bool) (end : ℕ) (old new : Values) : Type 0 where
  pub values : (depth offset : ℕ) → new depth offset ≡ filled_below tree n held end old depth offset
  pub small : LackSmall tree n held end old

-- the first lacking node that is larger than a core stands at this place
pub record LacksFirst (tree : List ℕ) (n : ℕ) (held : ℕ → Bool) (value : Values) (at : ℕ) : Type 0 where
  pub index : ℕ
  pub below : index < 2 * n
  pub large : LacksLarge tree n held index value at
  pub small : LackSmall tree n held index value

-- all nodes are there that are to be stored, or the first is told that is too large
abbrev pub FillsAll : List ℕ → ℕ → (ℕ → Bool) → Values → Values → Result (Unit {0}) CoreFault → Type 0
FillsAll tree n held old new (Ok _) = HasFilled tree n held (2 * n) old new
FillsAll tree n held old new (Err Memory) = ⊤
FillsAll tree n held old new (Err StoreFault) = ⊤
FillsAll tree n held old new (Err (BadStore area at)) = (area ≡ Tree) × LacksFirst tree n held old at
FillsAll tree n held old new (Err other) = ⊥
