-- What a batch keeps in memory.
use Rattle.std.specs.Prelude.{◌≡◌, ℕ, ◌+◌, ◌*◌, ◌≤◌, List, length, min, Vec, vec_capacity}
use Rattle.std.specs.List.{AllByRecursion}
use Rattle.std.specs.declared.alloc.Global.{Global}
use Rattle.flat_tree.specs.declared.limits.TheConstants.{MAX_BLOCKS, MAX_ROOTS, MAX_CORE_BYTES, MAX_BATCH_BLOCKS, MAX_BATCH_BYTES}
use Rattle.merkle_nodes.specs.declared.node.Node.{Node}
use Rattle.merkle_nodes.specs.Roots.{HasShape}
use Rattle.merkle_nodes.specs.Nodes.{bytes_under}
use Rattle.merkle_batch.specs.Batch.{SizeFits}

-- the memory that is taken at once: each block makes two nodes, and the roots before it may be joined besides
abbrev pub memory_of : ℕ → ℕ
memory_of room = 2 * min room MAX_BATCH_BLOCKS + MAX_ROOTS

-- the counts are within their limits, the roots have the shape of the length, and the nodes to come have memory
pub record IsKept (room base blocks bytes total : ℕ) (roots : List Node) (nodes : Vec Node Global) : Type 0 where
  pub in_room : blocks ≤ min room MAX_BATCH_BLOCKS
  pub within : base + blocks ≤ MAX_BLOCKS
  pub few_bytes : bytes ≤ MAX_BATCH_BYTES
  pub total_is : total ≡ bytes_under roots
  pub most : total ≤ MAX_ROOTS * MAX_CORE_BYTES
  pub shape : HasShape roots (base + blocks)
  pub roots_fit : AllByRecursion SizeFits roots
  pub nodes_fit : AllByRecursion SizeFits nodes.items
  pub memory : memory_of room ≤ vec_capacity nodes
  pub filled : length nodes.items + length roots ≤ 2 * blocks + MAX_ROOTS
