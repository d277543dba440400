-- Which limit a block of so many bytes, pushed next, would pass: the first, in this order.
use Rattle.std.specs.Prelude.{ℕ, ◌+◌, ◌<◌, ◌≤◌}
use Rattle.flat_tree.specs.declared.limits.TheConstants.{MAX_BLOCKS, MAX_BLOCK_BYTES, MAX_CORE_BYTES, MAX_BATCH_BLOCKS, MAX_BATCH_BYTES}
use Rattle.merkle_nodes.specs.declared.limit.Limit.{Limit}
use Rattle.merkle_nodes.specs.declared.limit.What.{What}
use Rattle.merkle_nodes.specs.declared.limit.What.TheVariants.{Block, Blocks, Bytes, Batch, BatchBytes}
use Rattle.merkle_batch.specs.Batch.{BatchView}
use Rattle.merkle_nodes.specs.Nodes.{bytes_under}

-- this quantity would pass this limit
abbrev pub limit_of : What → ℕ → Limit
limit_of what max = record { what = what; max = max }

-- of a block's bytes
abbrev pub block_limit : Limit
block_limit = limit_of Block MAX_BLOCK_BYTES

-- of a batch's blocks
abbrev pub batch_limit : Limit
batch_limit = limit_of Batch MAX_BATCH_BLOCKS

-- of its bytes
abbrev pub batch_bytes_limit : Limit
batch_bytes_limit = limit_of BatchBytes MAX_BATCH_BYTES

-- of a core's blocks
abbrev pub blocks_limit : Limit
blocks_limit = limit_of Blocks MAX_BLOCKS

-- of its bytes
abbrev pub bytes_limit : Limit
bytes_limit = limit_of Bytes MAX_CORE_BYTES

-- the block is longer than one may be
abbrev pub PassesBlock : ℕ → Type 0
PassesBlock size = MAX_BLOCK_BYTES < size

-- it passes no limit of blocks
abbrev pub FitsBlock : ℕ → Type 0
FitsBlock size = size ≤ MAX_BLOCK_BYTES

-- no limit before, but the batch has as many blocks as it may have
abbrev pub PassesBatch : BatchView → ℕ → Type 0
PassesBatch batch size = FitsBlock size × (MAX_BATCH_BLOCKS ≤ batch.blocks)

-- none up to the batch's blocks
abbrev pub FitsBatch : BatchView → ℕ → Type 0
FitsBatch batch size = FitsBlock size × (batch.blocks < MAX_BATCH_BLOCKS)

-- no limit before, but the batch would have more bytes than it may have
abbrev pub PassesBatchBytes : BatchView → ℕ → Type 0
PassesBatchBytes batch size = FitsBatch batch size × (MAX_BATCH_BYTES < batch.bytes + size)

-- none up to the batch's bytes
abbrev pub FitsBatchBytes : BatchView → ℕ → Type 0
FitsBatchBytes batch size = FitsBatch batch size × (batch.bytes + size ≤ MAX_BATCH_BYTES)

-- no limit before, but the core has as many blocks as it may have
abbrev pub PassesBlocks : BatchView → ℕ → Type 0
PassesBlocks batch size = FitsBatchBytes batch size × (MAX_BLOCKS ≤ batch.base + batch.blocks)

-- none up to the core's blocks
abbrev pub FitsBlocks : BatchView → ℕ → Type 0
FitsBlocks batch size = FitsBatchBytes batch size × (batch.base + batch.blocks < MAX_BLOCKS)

-- no limit before, but the core would have more bytes than it may have
abbrev pub PassesBytes : BatchView → ℕ → Type 0
PassesBytes batch size = FitsBlocks batch size × (MAX_CORE_BYTES < bytes_under batch.roots + size)

-- none at all
abbrev pub FitsBytes : BatchView → ℕ → Type 0
FitsBytes batch size = FitsBlocks batch size × (bytes_under batch.roots + size ≤ MAX_CORE_BYTES)
