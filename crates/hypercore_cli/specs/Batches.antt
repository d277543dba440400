-- How the lines of an input are cut into the batches that `append` commits, and what a content is after these.
use Rattle.std.specs.Prelude.{◌≡◌, ℕ, ◌+◌, ◌-◌, ◌<◌, ◌≤◌, Bool, true, ◌||◌, ⊤, nat_lt, if◌then◌else◌, List, [], ◌∷◌, ◌++◌, length, take, Ok}
use Rattle.flat_tree.specs.declared.limits.TheConstants.{MAX_BATCH_BLOCKS, MAX_BATCH_BYTES}
use Rattle.merkle_batch.specs.Batch.{bytes_of}
use Rattle.node_set.specs.declared.fault.Receipt.{Receipt}
use Rattle.node_set.specs.Contents.{Content}
use Rattle.core_state.specs.Events.Event.{Append}
use Rattle.core_state.specs.Events.Reply.{Done}
use Rattle.core_state.specs.Next.{Next}

-- ---- batches

-- with this block more a batch would pass the most blocks or the most bytes that it may have
abbrev pub is_full_for : ℕ → ℕ → List (List ℕ) → List ℕ → Bool
is_full_for most_blocks most_bytes batch block = nat_lt most_blocks (length batch + 1) || nat_lt most_bytes (bytes_of batch + length block)

-- the batch that is open where the input ended; where it had no block there is none
abbrev pub last_of : List (List ℕ) → List (List (List ℕ))
last_of [] = []
last_of (block ∷ batch) = (block ∷ batch) ∷ []

-- the batches of an open one and the blocks behind it: it is closed where the next block would pass a limit, and a new one
-- is opened with that block; or it is closed where the input ended
abbrev pub batches_from : ℕ → ℕ → List (List ℕ) → List (List ℕ) → List (List (List ℕ))
batches_from most_blocks most_bytes batch [] = batch ∷ []
batches_from most_blocks most_bytes batch (block ∷ rest) =
    let full = is_full_for most_blocks most_bytes batch block in
    let behind = batches_from most_blocks most_bytes (if full then block ∷ [] else batch ++ block ∷ []) rest in
    if full then batch ∷ behind else behind

-- the first block opens a batch, and no block is no batch
abbrev pub batches_within : ℕ → ℕ → List (List ℕ) → List (List (List ℕ))
batches_within most_blocks most_bytes [] = []
batches_within most_blocks most_bytes (block ∷ rest) = batches_from most_blocks most_bytes (block ∷ []) rest

-- the batches of the lines of a whole input
abbrev pub batches_of : List (List ℕ) → List (List (List ℕ))
batches_of lines = batches_within MAX_BATCH_BLOCKS MAX_BATCH_BYTES lines

-- those that are closed before the input ends: all but the last, which goes on
abbrev pub closed_of : List (List ℕ) → List (List (List ℕ))
closed_of lines = take (length (batches_of lines) - 1) (batches_of lines)

-- ---- what makes them the right ones

-- the blocks of some batches
abbrev pub blocks_of : List (List (List ℕ)) → List (List ℕ)
blocks_of [] = []
blocks_of (batch ∷ rest) = batch ++ blocks_of rest

-- a batch has a block, and no more blocks and bytes than it may have
pub record BatchFits (most_blocks most_bytes : ℕ) (batch : List (List ℕ)) : Type 0 where
  pub some : 0 < length batch
  pub few : length batch ≤ most_blocks
  pub bytes : bytes_of batch ≤ most_bytes

-- the first block of the next batch would pass a limit of this one
abbrev pub IsFullBefore : ℕ → ℕ → List (List ℕ) → List (List (List ℕ)) → Type 0
IsFullBefore most_blocks most_bytes batch [] = ⊤
IsFullBefore most_blocks most_bytes batch ([] ∷ rest) = ⊥
IsFullBefore most_blocks most_bytes batch ((block ∷ next) ∷ rest) = is_full_for most_blocks most_bytes batch block ≡ true

-- each batch fits, and none is closed too early
abbrev pub AreBatches : ℕ → ℕ → List (List (List ℕ)) → Type 0
AreBatches most_blocks most_bytes [] = ⊤
AreBatches most_blocks most_bytes (batch ∷ rest) =
    BatchFits most_blocks most_bytes batch × IsFullBefore most_blocks most_bytes batch rest × AreBatches most_blocks most_bytes rest

-- ---- what they make of a content

-- a batch is appended to a content, under a head that the verifier accepts
abbrev pub IsAppended : (List ℕ → List ℕ → Bool) → Content → List (List ℕ) → Content → Type 0
IsAppended accepts m batch after = (receipt : Receipt) × Next accepts m (Append batch) after (Done (Ok receipt))

-- each batch in turn is appended
abbrev pub Grows : (List ℕ → List ℕ → Bool) → Content → List (List (List ℕ)) → Content → Type 0
Grows accepts m [] after = after ≡ m
Grows accepts m (batch ∷ batches) after = (next : Content) × IsAppended accepts m batch next × Grows accepts next batches after
