-- The honest proof of a block: what a log's own tree gives for it.
use Rattle.std.specs.Prelude.{◌≡◌, ℕ, Bool, List, [], ◌+◌, ◌-◌, ◌*◌, ◌/◌, ◌%◌, ◌^◌, ◌≤◌, ◌++◌, length, map, slice_get, slice_index_or, Some, Result, IsTrue}
use Rattle.std.specs.List.{range_with_len, AllByRecursion}
use Rattle.std.specs.Result.{IsOkAnd}
use Rattle.flat_tree.specs.Roots.{depth_over}
use Rattle.flat_tree.specs.declared.limits.TheConstants.{MAX_BLOCKS, MAX_BLOCK_BYTES, MAX_CORE_BYTES, MAX_BATCH_BLOCKS, MAX_BATCH_BYTES}
use Rattle.merkle_nodes.specs.declared.node.Twig.{Twig}
use Rattle.merkle_nodes.specs.declared.check.Opened.{Opened}
use Rattle.merkle_nodes.specs.declared.check.BundleFault.{BundleFault}
use Rattle.merkle_nodes.specs.Tree.{tree_of}
use Rattle.merkle_nodes.specs.Roots.{roots_of, root_hash_of, signed_text}
use Rattle.merkle_nodes.specs.Bundle.{Bundle, spelling, Fits}
use Rattle.merkle_nodes.specs.Check.{BlockProved, HeadAccepted, Checks, block_at}
use Rattle.merkle_batch.specs.Batch.{bytes_of}

-- the offset of the other half under the same parent
abbrev pub sibling_of : ℕ → ℕ
sibling_of offset = offset + 1 - 2 * (offset % 2)

-- the sibling of a block's path at a depth
abbrev pub sibling_at : List (List ℕ) → ℕ → ℕ → Twig
sibling_at log index depth = tree_of log depth (sibling_of (index / 2 ^ depth))

-- the siblings of a block's path below the root over it, from the leaf upward
abbrev pub trail_of : List (List ℕ) → ℕ → List Twig
trail_of log index = map (sibling_at log index) (range_with_len 0 (depth_over (length log) index))

-- the bundle of a block of the log, under fork 0 and with this signature
abbrev pub honest_bundle : List (List ℕ) → ℕ → List ℕ → Bundle
honest_bundle log index signature = record {
  start = record { fork = 0; length = length log; index = index; signature = signature };
  roots = roots_of log;
  trail = trail_of log index;
  block = slice_index_or log index [];
}

-- the text that is signed for the log under fork 0
abbrev pub head_text : List (List ℕ) → List ℕ
head_text log = signed_text (root_hash_of (roots_of log)) (length log) 0

-- the verifier accepts this signature for the log
pub record IsSigned (accepts : List ℕ → List ℕ → Bool) (log : List (List ℕ)) (signature : List ℕ) : Type 0 where
  pub wide : length signature ≡ 64
  pub accepted : IsTrue (accepts (head_text log) signature)

-- a block has no more bytes than one may have
abbrev pub BlockFits : List ℕ → Type 0
BlockFits block = length block ≤ MAX_BLOCK_BYTES

-- the log keeps the limits of a core
pub record LogFits (log : List (List ℕ)) : Type 0 where
  pub few : length log ≤ MAX_BLOCKS
  pub blocks : AllByRecursion BlockFits log
  pub bytes : bytes_of log ≤ MAX_CORE_BYTES

-- the blocks are no more than one append adds
pub record AppendFits (blocks : List (List ℕ)) : Type 0 where
  pub few : length blocks ≤ MAX_BATCH_BLOCKS
  pub fit : AllByRecursion BlockFits blocks
  pub bytes : bytes_of blocks ≤ MAX_BATCH_BYTES

-- the bundle with some accepted signature of the log was written behind the old bytes
pub record AppendsProof (accepts : List ℕ → List ℕ → Bool) (log : List (List ℕ)) (index : ℕ) (old new : List ℕ) : Type 0 where
  pub signature : List ℕ
  pub signed : IsSigned accepts log signature
  pub bytes : new ≡ old ++ spelling (honest_bundle log index signature)

-- the check opened the bundle at the index, with the log's block
abbrev pub OpensBlock : List (List ℕ) → ℕ → List ℕ → Opened → Type 0
OpensBlock log index bytes opened = (opened.index ≡ index) × (slice_get log index ≡ Some (block_at bytes opened))

-- the bundle of a block has a spelling, proves the block under an accepted head, and each answer of its check opens it
pub record IsOpened (accepts : List ℕ → List ℕ → Bool) (log : List (List ℕ)) (index : ℕ) (signature : List ℕ) : Type 0 where
  pub fits : Fits (honest_bundle log index signature)
  pub proved : BlockProved (honest_bundle log index signature)
  pub accepted : HeadAccepted accepts (honest_bundle log index signature)
  pub answers : (answer : Result Opened BundleFault) → Checks accepts (spelling (honest_bundle log index signature)) answer
      → IsOkAnd answer (OpensBlock log index (spelling (honest_bundle log index signature)))
