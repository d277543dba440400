-- When a content is whole: its nodes, blocks and head agree, and nothing else is stored.
use Rattle.std.specs.Prelude.{◌≡◌, ℕ, Bool, ◌+◌, ◌*◌, ◌<◌, ◌≤◌, ◌⊎◌, List, length, Some, is_some, replicate}
use Rattle.flat_tree.specs.declared.limits.TheConstants.{MAX_BLOCKS, MAX_FORK, MAX_BLOCK_BYTES, MAX_CORE_BYTES}
use Rattle.merkle_nodes.specs.declared.node.Twig.{Twig}
use Rattle.merkle_nodes.specs.Tree.{leaf_of, parent_of}
use Rattle.merkle_nodes.specs.Roots.{Accepts}
use Rattle.merkle_nodes.specs.Bundle.{TwigFits}
use Rattle.node_set.specs.Contents.{Content, Blocks, Values, holds, roots, bytes_under}
use Rattle.node_set.specs.Closure.{in_closure}

-- held blocks are below the length, and none is larger than a block may be
pub record BlocksFit (n : ℕ) (block : Blocks) : Type 0 where
  pub below : (index : ℕ) (bytes : List ℕ) → block index ≡ Some bytes → index < n
  pub size : (index : ℕ) (bytes : List ℕ) → block index ≡ Some bytes → length bytes ≤ MAX_BLOCK_BYTES

-- a node is stored exactly in the closure
abbrev pub IsClosed : ℕ → Blocks → Values → Type 0
IsClosed n block node = (depth offset : ℕ) → is_some (node depth offset) ≡ in_closure n (holds block) depth offset

-- two stored halves make their parent
abbrev pub PairsAgree : Values → Type 0
PairsAgree node = (depth offset : ℕ) (left right : Twig) → node depth (2 * offset) ≡ Some left → node depth (2 * offset + 1) ≡ Some right
    → node (depth + 1) offset ≡ Some (parent_of left right)

-- the leaf of a held block is stored
abbrev pub LeavesAgree : Blocks → Values → Type 0
LeavesAgree block node = (index : ℕ) (bytes : List ℕ) → block index ≡ Some bytes → node 0 index ≡ Some (leaf_of bytes)

-- a stored node's hash has 32 bytes, and its size is no larger than a core's
abbrev pub NodesFit : Values → Type 0
NodesFit node = (depth offset : ℕ) (twig : Twig) → node depth offset ≡ Some twig → TwigFits twig

-- the blocks held and the nodes stored agree, and nothing else is stored
pub record IsSound (m : Content) : Type 0 where
  pub blocks : BlocksFit m.length m.block
  pub closed : IsClosed m.length m.block m.node
  pub pairs : PairsAgree m.node
  pub leaves : LeavesAgree m.block m.node
  pub fit : NodesFit m.node

-- the head that was never signed
pub record IsStart (m : Content) : Type 0 where
  pub fork : m.fork ≡ 0
  pub empty : m.length ≡ 0
  pub unsigned : m.signature ≡ replicate 64 0

-- the head and the bytes of the log keep the limits
pub record KeepsLimits (m : Content) : Type 0 where
  pub blocks : m.length ≤ MAX_BLOCKS
  pub fork : m.fork ≤ MAX_FORK
  pub bytes : bytes_under (roots m) ≤ MAX_CORE_BYTES
  pub signature : length m.signature ≡ 64

-- the content is sound, within the limits, and the verifier accepts its head, or it was never changed
pub record IsWhole (accepts : List ℕ → List ℕ → Bool) (m : Content) : Type 0 where
  pub sound : IsSound m
  pub limits : KeepsLimits m
  pub head : Accepts accepts m.fork m.length (roots m) m.signature ⊎ IsStart m
