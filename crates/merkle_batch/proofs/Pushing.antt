-- The blocks of a log that are pushed one after the other behind the empty log.
use Rattle.std.proofs.Common.{◌≡◌, ℕ, ◌+◌, ◌<◌, ◌≤◌, List, [], ◌∷◌, ◌++◌, length, get_or, take, slice_get, Some, None, Result, Ok, Err, refl, sym, ◌∙◌, ap, subst, arith}
use Rattle.std.specs.Result.{IsOk, OnOk}
use Rattle.std.proofs.lemmas.List.{take_more, take_all}
use Rattle.std.proofs.lemmas.List.Sums.{sum_by_push, sum_by-take-le}
use Rattle.std.proofs.lemmas.Option.{slice_get-get_or}
use Rattle.flat_tree.specs.Roots.{roots_below, full_roots_of}
use Rattle.flat_tree.specs.declared.limits.TheConstants.{MAX_BATCH_BLOCKS}
use Rattle.merkle_nodes.specs.Roots.{roots_of}
use Rattle.merkle_nodes.specs.Nodes.{bytes_under}
use Rattle.merkle_nodes.specs.Joined.{Values}
use Rattle.merkle_batch.specs.Batch.{bytes_of, nodes_of, BatchView, HasBlocks, PushesBlock, empty_on}
use Rattle.merkle_batch.specs.Limits.{FitsBatch, FitsBatchBytes, FitsBlocks, FitsBytes}
use Rattle.merkle_batch.specs.Honest.{BlockFits, AppendFits}
use Rattle.merkle_batch.proofs.Held.{HasBlocks-none}
use Rattle.merkle_batch.proofs.HonestLemmas.{block_fits}
use Rattle.merkle_batch.proofs.LogNodes.{HasBlocks-log}

-- what holds of an Ok holds where there is one
pub at_ok : {T E P : Type 0} (r : Result T E) → IsOk r → OnOk r P → P
at_ok (Ok x) ok holds = holds
at_ok (Err e) ok holds = cc

-- so many of the log's blocks were pushed
pub record HasPushed (log : List (List ℕ)) (place : ℕ) (batch : BatchView) : Type 0 where
  pub room : batch.room ≡ length log
  pub base : batch.base ≡ 0
  pub blocks : batch.blocks ≡ place
  pub bytes : batch.bytes ≡ bytes_of (take place log)
  pub total : bytes_under batch.roots ≡ bytes_of (take place log)
  pub held : (known : Values) → HasBlocks known (take place log) batch

pub HasPushed-start : (log : List (List ℕ)) (batch : BatchView) → batch ≡ empty_on (length log) 0 [] → HasPushed log 0 batch
unfolding roots_below full_roots_of
HasPushed-start log batch is = rw is (record {
  room = refl;
  base = refl;
  blocks = refl;
  bytes = refl;
  total = refl;
  held = λ known. HasBlocks-none known (empty_on (length log) 0 []) refl refl refl refl;
})

-- the next block
block_there : (log : List (List ℕ)) (place : ℕ) (block : List ℕ) → place < length log → slice_get log place ≡ Some block → get_or log place [] ≡ block
block_there log place block less there = let found = slice_get-get_or log place [] less in cc

next_block : (log : List (List ℕ)) (place : ℕ) (block : List ℕ) → place < length log → slice_get log place ≡ Some block
    → take (place + 1) log ≡ take place log ++ block ∷ []
next_block log place block less there =
    take_more log place [] less ∙ ap (λ (b : List ℕ). take place log ++ b ∷ []) (block_there log place block less there)

-- it passes no limit
pub next_fits : (log : List (List ℕ)) (place : ℕ) (block : List ℕ) (batch : BatchView) → AppendFits log → place < length log
    → slice_get log place ≡ Some block → HasPushed log place batch → FitsBytes batch (length block)
next_fits log place block batch fits less there pushed =
    let size = subst BlockFits (block_there log place block less there) (block_fits log place fits.fit less) in
    let more = ap bytes_of (next_block log place block less there) ∙ sum_by_push length (take place log) block in
    let most = sum_by-take-le length log (place + 1) in
    let one : FitsBatch batch (length block) = (size, omega (arith, fits.few, less, pushed.blocks)) in
    let two : FitsBatchBytes batch (length block) = (one, omega (arith, pushed.bytes, more, most, fits.bytes)) in
    let three : FitsBlocks batch (length block) = (two, omega (arith, pushed.base, pushed.blocks, fits.few, less)) in
    (three, omega (arith, pushed.total, more, most, fits.bytes))

pub HasPushed-step : (log : List (List ℕ)) (place : ℕ) (block : List ℕ) (old new : BatchView) → place < length log → slice_get log place ≡ Some block
    → PushesBlock block old new → HasPushed log place old → HasPushed log (place + 1) new
HasPushed-step log place block old new less there pushes pushed =
    let more = next_block log place block less there in
    let all = ap bytes_of more ∙ sum_by_push length (take place log) block in
    let has = λ (known : Values). pushes.held known (take place log) (pushed.held known) in
    record {
      room = pushes.room ∙ pushed.room;
      base = pushes.base ∙ pushed.base;
      blocks = pushes.blocks ∙ ap (λ (n : ℕ). n + 1) pushed.blocks;
      bytes = omega (arith, pushes.bytes, pushed.bytes, all);
      total = omega (arith, pushes.total, pushed.total, all);
      held = λ known. subst (λ (blocks : List (List ℕ)). HasBlocks known blocks new) (sym more) (has known);
    }

-- all of them
pub HasPushed-all : (log : List (List ℕ)) (place : ℕ) (batch : BatchView) → length log ≤ MAX_BATCH_BLOCKS → length log ≤ place → HasPushed log place batch
    → (batch.roots ≡ roots_of log) × (batch.nodes ≡ nodes_of log)
HasPushed-all log place batch few end pushed =
    let known : Values = λ depth offset. None in
    let all = subst (λ (blocks : List (List ℕ)). HasBlocks known blocks batch) (take_all place log end) (pushed.held known) in
    HasBlocks-log known log batch pushed.base (omega (arith, few)) all
