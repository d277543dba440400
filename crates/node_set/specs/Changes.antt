-- What an append, a truncation, a clearing, an upgrade and a fetched block make of a content.
use Rattle.std.specs.Prelude.{◌≡◌, ℕ, Bool, true, is_some, ◌+◌, ◌-◌, ◌&&◌, List, length, Some, None, nat_le, nat_lt, nat_eq, IsTrue, ◌<◌, ◌≤◌, sum_by, if◌then◌else◌, slice_get}
use Rattle.merkle_nodes.specs.declared.node.Twig.{Twig}
use Rattle.merkle_nodes.specs.Joined.{joined, with_blocks, with_parts, or_value}
use Rattle.flat_tree.specs.Covers.{cover_of}
use Rattle.std.specs.List.{AllByRecursion}
use Rattle.flat_tree.specs.declared.limits.TheConstants.{MAX_BLOCKS, MAX_BLOCK_BYTES, MAX_CORE_BYTES}
use Rattle.merkle_nodes.specs.Roots.{root_hash_of, signed_text}
use Rattle.merkle_nodes.specs.Bundle.{TwigFits}
use Rattle.node_set.specs.Contents.{Content, Blocks, Values, holds, roots, bytes_under}
use Rattle.node_set.specs.Evidence.{bytes_of}
use Rattle.node_set.specs.Closure.{closed_on, is_root}

-- the values of the closure alone
abbrev pub closed : ℕ → Blocks → Values → Values
closed n block = closed_on n (holds block)

-- the content with this head and these blocks whose nodes, exactly those of the closure, have these values
abbrev pub content_on : ℕ → ℕ → List ℕ → Blocks → Values → Content
content_on fork n signature block value =
    record { fork = fork; length = n; signature = signature; block = block; node = closed n block value }

-- the blocks below an index
abbrev pub blocks_below : ℕ → Blocks → Blocks
blocks_below to block index = if nat_lt index to then block index else None

-- the blocks outside from..to
abbrev pub blocks_without : ℕ → ℕ → Blocks → Blocks
blocks_without from to block index = if nat_le from index && nat_lt index to then None else block index

-- the blocks, and more from an index on
abbrev pub blocks_with : ℕ → List (List ℕ) → Blocks → Blocks
blocks_with from more block index = if nat_lt index from then block index else slice_get more (index - from)

-- the blocks, and one of an index
abbrev pub blocks_with_one : ℕ → List ℕ → Blocks → Blocks
blocks_with_one at bytes block index = if nat_eq index at then Some bytes else block index

-- blocks are added at the end, under a new signature
abbrev pub append_content : List (List ℕ) → List ℕ → Content → Content
append_content more signature m = content_on m.fork (m.length + length more) signature (blocks_with m.length more m.block)
    (joined (with_blocks m.length m.node more))

-- the log is cut, under another fork and a new signature
abbrev pub truncate_content : ℕ → ℕ → List ℕ → Content → Content
truncate_content to fork signature m = content_on fork to signature (blocks_below to m.block) m.node

-- the blocks from..to are given up
abbrev pub clear_content : ℕ → ℕ → Content → Content
clear_content from to m = content_on m.fork m.length m.signature (blocks_without from to m.block) m.node

-- the log is longer: the subtrees behind its old end, left to right, are these
abbrev pub upgrade_content : ℕ → List Twig → List ℕ → Content → Content
upgrade_content to parts signature m = content_on m.fork to signature m.block
    (joined (with_parts m.length m.node (cover_of m.length to) parts))

-- a block comes in with the values of its path
abbrev pub fetch_content : ℕ → List ℕ → Values → Content → Content
fetch_content index bytes path m = content_on m.fork m.length m.signature (blocks_with_one index bytes m.block)
    (λ depth offset. or_value (m.node depth offset) (path depth offset))

-- each full root of a length is stored
abbrev pub RootsStored : ℕ → Content → Type 0
RootsStored to m = (depth offset : ℕ) → is_root to depth offset ≡ true → is_some (m.node depth offset) ≡ true

-- an append keeps the limits
pub record AppendFits (more : List (List ℕ)) (m : Content) : Type 0 where
  pub blocks : m.length + length more ≤ MAX_BLOCKS
  pub bytes : bytes_under (roots m) + bytes_of more ≤ MAX_CORE_BYTES
  pub sizes : AllByRecursion (λ (block : List ℕ). length block ≤ MAX_BLOCK_BYTES) more

-- an upgrade is longer, has a value for each subtree of the new part's cover, and keeps the limits
pub record UpgradeFits (to : ℕ) (parts : List Twig) (m : Content) : Type 0 where
  pub longer : m.length < to
  pub blocks : to ≤ MAX_BLOCKS
  pub count : length parts ≡ length (cover_of m.length to)
  pub parts_fit : AllByRecursion TwigFits parts
  pub bytes : bytes_under (roots m) + sum_by (λ (twig : Twig). twig.size) parts ≤ MAX_CORE_BYTES

-- the new head is accepted under a signature
pub record IsSigned (accepts : List ℕ → List ℕ → Bool) (m : Content) : Type 0 where
  pub signature : length m.signature ≡ 64
  pub accepted : IsTrue (accepts (signed_text (root_hash_of (roots m)) m.length m.fork) m.signature)
