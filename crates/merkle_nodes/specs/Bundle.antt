-- The proof bundle: a block, and all that proves it under a signed head (docs/FORMATS.md, "Proof bundle").
use Rattle.std.specs.Prelude.{◌≡◌, ℕ, ◌<◌, ◌≤◌, List, ◌++◌, length, codes}
use Rattle.std.specs.List.{flat_map, AllByRecursion}
use Rattle.flat_tree.specs.Roots.{depth_over}
use Rattle.flat_tree.specs.declared.limits.TheConstants.{MAX_BLOCKS, MAX_FORK, MAX_BLOCK_BYTES, MAX_CORE_BYTES}
use Rattle.merkle_nodes.specs.declared.node.Node.{Node}
use Rattle.merkle_nodes.specs.declared.node.Twig.{Twig}
use Rattle.merkle_nodes.specs.declared.reading.Start.{Start}
use Rattle.merkle_nodes.specs.Tree.{u64_bytes}
use Rattle.merkle_nodes.specs.Roots.{HasShape}

-- a head and an index, the roots under the head, and the block at the index with the siblings of its path
pub record Bundle : Type 0 where
  pub start : Start
  pub roots : List Node
  pub trail : List Twig
  pub block : List ℕ

-- the bytes that each bundle begins with
abbrev pub magic : List ℕ
magic = codes "HCPROOF1"

-- a size and a hash
abbrev pub twig_spelling : Twig → List ℕ
twig_spelling twig = u64_bytes twig.size ++ twig.hash

-- the same of a node, whose number follows from its place
abbrev pub node_spelling : Node → List ℕ
node_spelling node = u64_bytes node.size ++ node.hash

-- the bytes of a bundle up to its roots
abbrev pub start_spelling : Start → List ℕ
start_spelling s = magic ++ u64_bytes s.fork ++ u64_bytes s.length ++ u64_bytes s.index ++ s.signature

-- a length and that many bytes
abbrev pub block_spelling : List ℕ → List ℕ
block_spelling block = u64_bytes (length block) ++ block

-- the bytes of a bundle
unfoldable pub spelling : Bundle → List ℕ
spelling b = start_spelling b.start ++ flat_map node_spelling b.roots ++ flat_map twig_spelling b.trail ++ block_spelling b.block

-- a twig's size and hash are in their ranges
pub record TwigFits (twig : Twig) : Type 0 where
  pub size : twig.size ≤ MAX_CORE_BYTES
  pub hash : length twig.hash ≡ 32

-- a node's size and hash are in their ranges
pub record NodeFits (node : Node) : Type 0 where
  pub size : node.size ≤ MAX_CORE_BYTES
  pub hash : length node.hash ≡ 32

-- the numbers at the start are in their ranges
pub record StartFits (s : Start) : Type 0 where
  pub fork : s.fork ≤ MAX_FORK
  pub some : 0 < s.length
  pub few : s.length ≤ MAX_BLOCKS
  pub index : s.index < s.length
  pub signature : length s.signature ≡ 64

-- what has a spelling: the roots are those of the length, and the trail is as long as the path to the root over the index
pub record Fits (b : Bundle) : Type 0 where
  pub start : StartFits b.start
  pub shape : HasShape b.roots b.start.length
  pub roots : AllByRecursion NodeFits b.roots
  pub path : length b.trail ≡ depth_over b.start.length b.start.index
  pub trail : AllByRecursion TwigFits b.trail
  pub block : length b.block ≤ MAX_BLOCK_BYTES

-- the bytes are this bundle's, and no more
abbrev pub Spells : Bundle → List ℕ → Type 0
Spells b bytes = Fits b × (bytes ≡ spelling b)
