-- Parts in memory, and the content that they show.
use Rattle.std.specs.Prelude.{ℕ, Bool, List, None, slice_get, if◌then◌else◌}
use Rattle.bit_field.specs.Places.{has}
use Rattle.merkle_nodes.specs.declared.roots.Head.{Head}
use Rattle.node_set.specs.Contents.{Content}
use Rattle.node_set.specs.Closure.{closed_on}
use Rattle.node_set.specs.Nodes.{NodePages, values_of}

-- a head, whether each index is held, and the nodes and the blocks on hand
pub record Parts : Type 0 where
  pub head : Head
  pub held : List Bool
  pub nodes : NodePages
  pub blocks : List (List ℕ)

-- the content that they show: the held blocks, and the nodes of the closure
abbrev pub shown : Parts → Content
shown parts = record {
  fork = parts.head.fork;
  length = parts.head.length;
  signature = parts.head.signature;
  block = λ index. if has parts.held index then slice_get parts.blocks index else None;
  node = closed_on parts.head.length (has parts.held) (values_of parts.nodes);
}
