-- Worked cases of an append's limits, of what is kept of a reply, and of what follows an event.
use Rattle.std.proofs.Common.{◌≡◌, ℕ, Bool, ◌+◌, ◌-◌, List, [], ◌∷◌, length, replicate, Some, None, Ok, Err, refl}
use Rattle.flat_tree.specs.declared.limits.TheConstants.{MAX_BLOCKS, MAX_FORK, MAX_BLOCK_BYTES, MAX_CORE_BYTES, MAX_BATCH_BLOCKS, MAX_BATCH_BYTES}
use Rattle.commit_book.specs.declared.commit.Commit.TheVariants.{Append as AppendCommit}
use Rattle.merkle_nodes.specs.declared.limit.What.TheVariants.{Block, Blocks, Bytes, Batch, BatchBytes, Fork}
use Rattle.node_set.specs.declared.fault.CoreFault.{CoreFault}
use Rattle.node_set.specs.declared.fault.CoreFault.TheVariants.{Memory, Broken, BookFull, StoreFault, BadStore, Damaged, BadSignature, OutOfRange, Unavailable, NoNode, NoByte, NoReply, OldFork, Limit, Refused}
use Rattle.node_set.specs.declared.fault.Receipt.{Receipt}
use Rattle.node_set.specs.Contents.{start}
use Rattle.core_state.specs.Events.Event.{Head, Append, Truncate, Clear, Get, Need}
use Rattle.core_state.specs.Events.Reply.{Told, Done, Read, Number}
use Rattle.core_state.specs.States.{info_of, receipt_of}
use Rattle.core_state.specs.Refusals.{limit_at, limit_in, append_refusal}
use Rattle.core_state.specs.Next.{Next}
use Rattle.core_state.specs.Plays.{status_of, kept_with, kept_of}

-- ---- limits: of two that a block passes, the first

pub block_before_batch : limit_at 0 0 MAX_BATCH_BLOCKS 0 (MAX_BLOCK_BYTES + 1) ≡ Some (Limit Block MAX_BLOCK_BYTES)
block_before_batch = refl

pub batch_before_its_bytes : limit_at 0 0 MAX_BATCH_BLOCKS MAX_BATCH_BYTES 1 ≡ Some (Limit Batch MAX_BATCH_BLOCKS)
batch_before_its_bytes = refl

pub batch_bytes_before_blocks : limit_at MAX_BLOCKS 0 0 MAX_BATCH_BYTES 1 ≡ Some (Limit BatchBytes MAX_BATCH_BYTES)
batch_bytes_before_blocks = refl

pub blocks_before_bytes : limit_at MAX_BLOCKS MAX_CORE_BYTES 0 0 1 ≡ Some (Limit Blocks MAX_BLOCKS)
blocks_before_bytes = refl

pub bytes_last : limit_at 0 MAX_CORE_BYTES 0 0 1 ≡ Some (Limit Bytes MAX_CORE_BYTES)
bytes_last = refl

-- one that reaches each limit passes none
pub each_limit_reached : limit_at (MAX_BLOCKS - MAX_BATCH_BLOCKS) (MAX_CORE_BYTES - MAX_BATCH_BYTES) (MAX_BATCH_BLOCKS - 1) (MAX_BATCH_BYTES - MAX_BLOCK_BYTES) MAX_BLOCK_BYTES ≡ None
each_limit_reached = refl

-- a block's last limit comes before the next block's first one
pub block_by_block : (long : List ℕ) → limit_in MAX_BLOCKS 0 0 0 ([] ∷ long ∷ []) ≡ Some (Limit Blocks MAX_BLOCKS)
unfolding limit_in
block_by_block long = refl

-- the blocks before it count for a block
pub last_place_taken : limit_in (MAX_BLOCKS - 1) 0 0 0 ([] ∷ [] ∷ []) ≡ Some (Limit Blocks MAX_BLOCKS)
unfolding limit_in
last_place_taken = refl

pub last_byte_taken : limit_in 0 (MAX_CORE_BYTES - 1) 0 0 ((97 ∷ []) ∷ [] ∷ (98 ∷ []) ∷ []) ≡ Some (Limit Bytes MAX_CORE_BYTES)
unfolding limit_in
last_byte_taken = refl

pub long_refused : (block : List ℕ) (more : List (List ℕ)) → length block ≡ MAX_BLOCK_BYTES + 1
    → append_refusal start (block ∷ more) ≡ Some (Limit Block MAX_BLOCK_BYTES)
unfolding limit_in
long_refused block more long = rw long refl

-- ---- what is kept

abbrev receipt : Receipt
receipt = record { fork = 3; length = 7; root = replicate 32 0; commit = Some (AppendCommit 2) }

-- of a change the length
pub change_kept : kept_of (Done (Ok receipt)) ≡ kept_with 0 7 []
change_kept = refl

-- of a read the block and its number of bytes
pub read_kept : kept_of (Read (Ok (record { block = 97 ∷ 98 ∷ []; trail = [] }))) ≡ kept_with 0 2 (97 ∷ 98 ∷ [])
read_kept = refl

-- of a fault its status alone
pub fault_kept : kept_of (Read (Err (OutOfRange 7))) ≡ kept_with 12 0 []
fault_kept = refl

-- want of memory alone has its status
pub memory_alone : (fault : CoreFault) → status_of fault ≡ 70 → fault ≡ Memory
memory_alone Memory is = refl
memory_alone (Broken count) is = cc
memory_alone BookFull is = cc
memory_alone StoreFault is = cc
memory_alone (BadStore area at) is = cc
memory_alone (Damaged place want have) is = cc
memory_alone BadSignature is = cc
memory_alone (OutOfRange end) is = cc
memory_alone (Unavailable index) is = cc
memory_alone (NoNode index) is = cc
memory_alone (NoByte byte) is = cc
memory_alone NoReply is = cc
memory_alone (OldFork have) is = cc
memory_alone (Limit what max) is = cc
memory_alone (Refused refusal) is = cc

-- ---- what follows an event on the content that was never changed

module _ (accepts : List ℕ → List ℕ → Bool) where
  pub start_info : Next accepts start Head start (Told (info_of start))
  start_info = (refl, refl)

  -- no block is no commit
  pub append_none : Next accepts start (Append []) start (Done (Ok (receipt_of start None)))
  unfolding limit_in
  append_none = (refl, record { content = refl; tells = refl })

  -- no block is there
  pub get_past : Next accepts start (Get 0) start (Read (Err (OutOfRange 0)))
  get_past = (refl, refl)

  pub need_past : Next accepts start (Need 0) start (Number (Err (OutOfRange 0)))
  need_past = (refl, refl)

  pub clear_past : Next accepts start (Clear 0 1) start (Done (Err (OutOfRange 0)))
  clear_past = (refl, refl)

  pub clear_backward : Next accepts start (Clear 1 0) start (Done (Err (OutOfRange 0)))
  clear_backward = (refl, refl)

  -- none is given up without a commit
  pub clear_none : Next accepts start (Clear 0 0) start (Done (Ok (receipt_of start None)))
  clear_none = (refl, record { none = λ index from to. refl; rests = record { content = refl; tells = refl } })

  -- past the length comes before a fork that isn't greater, and that limit before it
  pub truncate_past : Next accepts start (Truncate 1 0) start (Done (Err (OutOfRange 0)))
  truncate_past = (refl, refl)

  pub truncate_limit : Next accepts start (Truncate 0 (MAX_FORK + 1)) start (Done (Err (Limit Fork MAX_FORK)))
  truncate_limit = (refl, refl)

  pub truncate_old : Next accepts start (Truncate 0 0) start (Done (Err (OldFork 0)))
  truncate_old = (refl, refl)
