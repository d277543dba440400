-- Whether a content is whole, and whether an area has its held blocks, as tests of the nodes and the blocks that its length allows.
use Rattle.std.specs.Prelude.{◌≡◌, ℕ, zero, suc, Bool, true, ◌+◌, ◌*◌, ◌<◌, ◌≤◌, ◌&&◌, ◌||◌, nat_le, nat_eq, List, length, take, drop, replicate, Option, Some, None, is_some}
use Rattle.std.specs.Bool.{beq}
use Rattle.std.specs.Str.{bytes_eq}
use Rattle.flat_tree.specs.declared.limits.TheConstants.{MAX_BLOCKS, MAX_FORK, MAX_BLOCK_BYTES, MAX_CORE_BYTES}
use Rattle.flat_tree.specs.Subtrees.{end_block_of}
use Rattle.merkle_nodes.specs.declared.node.Twig.{Twig}
use Rattle.merkle_nodes.specs.Tree.{leaf_of, parent_of}
use Rattle.merkle_nodes.specs.Roots.{root_hash_of, signed_text}
use Rattle.node_set.specs.Contents.{Content, Values, held, roots, bytes_under}
use Rattle.node_set.specs.Closure.{in_closure}
use Rattle.node_set.specs.Same.{is_stored_as}
use Rattle.node_set.specs.Offsets.{offset_of}

-- no block is held at or past the length, and no node is stored that isn't within it
pub record IsBounded (m : Content) : Type 0 where
  pub blocks : (index : ℕ) (bytes : List ℕ) → m.block index ≡ Some bytes → index < m.length
  pub nodes : (depth offset : ℕ) (twig : Twig) → m.node depth offset ≡ Some twig → end_block_of depth offset ≤ m.length

-- each number below an end passes
unfoldable pub each_below : ℕ → (ℕ → Bool) → Bool
each_below zero passes = true
each_below (suc n) passes = passes n && each_below n passes

-- each node passes whose depth and offset are below a length, as they are of each node within it
abbrev pub each_node : ℕ → (ℕ → ℕ → Bool) → Bool
each_node n passes = each_below n (λ depth. each_below n (passes depth))

-- ---- nodes and blocks that agree

-- what is held of a block, if it is, is no larger than a block may be, and its leaf is stored
abbrev pub block_agrees : Values → ℕ → Option (List ℕ) → Bool
block_agrees node index None = true
block_agrees node index (Some bytes) = nat_le (length bytes) MAX_BLOCK_BYTES && is_stored_as (node 0 index) (leaf_of bytes)

-- two halves, if both are stored, make their parent
abbrev pub halves_agree : Option Twig → Option Twig → Option Twig → Bool
halves_agree parent (Some left) (Some right) = is_stored_as parent (parent_of left right)
halves_agree parent _ _ = true

-- a node, if it is stored, has a size and a hash in their ranges
abbrev pub twig_fits : Option Twig → Bool
twig_fits None = true
twig_fits (Some twig) = nat_le twig.size MAX_CORE_BYTES && nat_eq (length twig.hash) 32

-- a node is stored exactly in the closure, its halves make it, and it fits
abbrev pub node_agrees : Content → ℕ → ℕ → Bool
node_agrees m depth offset =
    beq (is_some (m.node depth offset)) (in_closure m.length (held m) depth offset)
    && halves_agree (m.node (depth + 1) offset) (m.node depth (2 * offset)) (m.node depth (2 * offset + 1))
    && twig_fits (m.node depth offset)

-- the blocks held and the nodes stored agree
abbrev pub is_sound : Content → Bool
is_sound m = each_below m.length (λ index. block_agrees m.node index (m.block index)) && each_node m.length (node_agrees m)

-- ---- the head

-- the head and the bytes of the log keep the limits
abbrev pub is_limited : Content → Bool
is_limited m =
    nat_le m.length MAX_BLOCKS && nat_le m.fork MAX_FORK && nat_le (bytes_under (roots m)) MAX_CORE_BYTES && nat_eq (length m.signature) 64

-- the head was never signed
abbrev pub is_start : Content → Bool
is_start m = nat_eq m.fork 0 && nat_eq m.length 0 && bytes_eq m.signature (replicate 64 0)

-- the verifier accepts the head
abbrev pub is_accepted : (List ℕ → List ℕ → Bool) → Content → Bool
is_accepted accepts m = accepts (signed_text (root_hash_of (roots m)) m.length m.fork) m.signature

-- ---- the content

-- it is sound and within the limits
abbrev pub is_kept : Content → Bool
is_kept m = is_sound m && is_limited m

-- so it is, and its head is accepted or was never signed
abbrev pub is_whole : (List ℕ → List ℕ → Bool) → Content → Bool
is_whole accepts m = is_kept m && (is_accepted accepts m || is_start m)

-- what is held of a block, if it is, stands at a place of an area
abbrev pub stands_at : List ℕ → ℕ → Option (List ℕ) → Bool
stands_at area place None = true
stands_at area place (Some bytes) = bytes_eq (take (length bytes) (drop place area)) bytes

-- each held block stands at its offset
abbrev pub has_blocks : List ℕ → Content → Bool
has_blocks area m = each_below m.length (λ index. stands_at area (offset_of m index) (m.block index))
