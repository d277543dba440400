-- The content that a core's disk has: of what was opened, and of the bytes of its blocks area.
use Rattle.std.specs.Prelude.{◌≡◌, ◌≤◌, ℕ, List, Some, None, [], if◌then◌else◌}
use Rattle.flat_tree.specs.declared.limits.TheConstants.{MAX_CORE_BYTES}
use Rattle.merkle_nodes.specs.declared.node.Twig.{Twig}
use Rattle.node_set.specs.Contents.{Content, Values, twig_at, roots_at}
use Rattle.node_set.specs.Closure.{closed_on}
use Rattle.node_set.specs.Offsets.{offset_of}
use Rattle.core_disk.specs.Opened.{Opened}
use Rattle.core_disk.specs.Areas.{read_at}

-- its head, which blocks are held, and the nodes that are to be stored, without the bytes of a block
abbrev pub outline : Opened → Content
outline o = record {
  fork = o.head.fork;
  length = o.head.length;
  signature = o.head.signature;
  block = λ index. if o.held index then Some [] else None;
  node = closed_on o.head.length o.held o.nodes;
}

-- the bytes of a held block in an area: at its offset, as many as its leaf tells
abbrev pub block_in : List ℕ → Content → ℕ → List ℕ
block_in area m index = read_at area (offset_of m index) (twig_at m.node 0 index).size

-- what was opened, with the bytes of its blocks in this area
abbrev pub content_in : List ℕ → Opened → Content
content_in area o = record {
  fork = o.head.fork;
  length = o.head.length;
  signature = o.head.signature;
  block = λ index. if o.held index then Some (block_in area (outline o) index) else None;
  node = closed_on o.head.length o.held o.nodes;
}

-- no node is larger than a core
abbrev pub SizesFit : Values → Type 0
SizesFit node = (depth offset : ℕ) (twig : Twig) → node depth offset ≡ Some twig → twig.size ≤ MAX_CORE_BYTES

-- each root is among the nodes
abbrev pub IsRooted : Opened → Type 0
IsRooted o = o.roots ≡ roots_at o.nodes o.head.length
