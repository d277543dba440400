-- The room that a core on a disk keeps for its changes.
use Rattle.std.specs.Prelude.{ℕ, ◌≤◌, Vec, length, vec_capacity}
use Rattle.std.specs.declared.alloc.Global.{Global}
use Rattle.flat_tree.specs.declared.limits.TheConstants.{MAX_BATCH_BLOCKS}
use Rattle.merkle_nodes.specs.declared.node.Node.{Node}
use Rattle.merkle_batch.specs.Batch.{BatchView}
use Rattle.oplog_form.specs.declared.entry.TheConstants.{MAX_ENTRY_BYTES, MAX_ENTRY_NODES}

-- a batch, the records of an entry and its bytes find room
pub record HasRooms (batch : BatchView) (records : Vec Node Global) (scratch : Vec ℕ Global) : Type 0 where
  pub blocks : MAX_BATCH_BLOCKS ≤ batch.room
  pub nodes : MAX_ENTRY_NODES ≤ vec_capacity records
  pub bytes : MAX_ENTRY_BYTES ≤ length scratch.items
