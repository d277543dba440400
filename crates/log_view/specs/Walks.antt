-- What walks along a block's path over a view give, and which block has a byte.
use Rattle.std.specs.Prelude.{◌≡◌, ℕ, zero, suc, true, false, ◌+◌, ◌-◌, ◌/◌, ◌*◌, ◌%◌, ◌^◌, ◌<◌, ◌≤◌, ◌⊎◌, take, Some, slice_get}
use Rattle.flat_tree.specs.Subtrees.{subtree, number}
use Rattle.flat_tree.specs.Roots.{full_roots_of, depth_over}
use Rattle.merkle_nodes.specs.declared.node.Node.{Node}
use Rattle.node_set.specs.Contents.{Content, held, twig_at, roots, bytes_under}
use Rattle.node_set.specs.Closure.{any_under}
use Rattle.node_set.specs.Offsets.{roots_left}
use Rattle.log_view.specs.Views.{Source, GivesNode}

-- the bytes are those of the left sibling that a view gives for the node of a block's path at a level, none at a left half
pub record IsLeftAt (s : Source) (index level bytes : ℕ) : Type 0 where
  pub left_half : index / 2 ^ level % 2 ≡ 0 → bytes ≡ 0
  pub right_half : index / 2 ^ level % 2 ≡ 1 → (node : Node) × GivesNode s (number level (index / 2 ^ level - 1)) node × (bytes ≡ node.size)

-- the bytes are those of the left siblings that a view gives for the lowest levels of a block's path
unfoldable pub AreLeft : Source → ℕ → ℕ → ℕ → Type 0
AreLeft s index zero bytes = bytes ≡ 0
AreLeft s index (suc level) bytes = (lower own : ℕ) × AreLeft s index level lower × IsLeftAt s index level own × (bytes ≡ lower + own)

-- a block begins at this byte by the roots of a view and the left siblings that it gives
abbrev pub BeginsAt : Source → ℕ → ℕ → Type 0
BeginsAt s index byte =
    (left : ℕ) × AreLeft s index (depth_over s.content.length index) left × (byte ≡ roots_left s.content index + left)

-- a byte of the log is the one so many bytes after the first of a full root
pub record IsInRoot (m : Content) (byte depth offset past : ℕ) : Type 0 where
  pub at : ℕ
  pub root : slice_get (full_roots_of m.length) at ≡ Some (subtree depth offset)
  pub begins : bytes_under (take at (roots m)) + past ≡ byte
  pub inside : past < (twig_at m.node depth offset).size

-- the byte so many after the first of a node's parent is so many after the first of the node, by the left half that a view gives
pub record GoesTo (s : Source) (depth offset above past : ℕ) : Type 0 where
  pub left : Node
  pub given : GivesNode s (number depth (2 * (offset / 2))) left
  pub left_half : offset % 2 ≡ 0 → (above < left.size) × (past ≡ above)
  pub right_half : offset % 2 ≡ 1 → above ≡ left.size + past

-- a byte is the one so many after the first of a node, so many levels below its root, by the left halves that a view gives
unfoldable pub LeadsTo : Source → ℕ → ℕ → ℕ → ℕ → ℕ → Type 0
LeadsTo s byte zero depth offset past = IsInRoot s.content byte depth offset past
LeadsTo s byte (suc levels) depth offset past = (above : ℕ) × LeadsTo s byte levels (suc depth) (offset / 2) above × GoesTo s depth offset above past

-- a byte is the one so many after the first of a held block
abbrev pub FindsByte : Source → ℕ → ℕ → ℕ → Type 0
FindsByte s byte index past = (held s.content index ≡ true) × ((levels : ℕ) × LeadsTo s byte levels 0 index past)

-- a byte is past the roots, or in a subtree without a held block
abbrev pub FindsNone : Source → ℕ → Type 0
FindsNone s byte =
    (bytes_under (roots s.content) ≤ byte)
    ⊎ ((levels depth offset past : ℕ) × LeadsTo s byte levels depth offset past × (any_under (held s.content) depth offset ≡ false))
