-- The blocks of an append, pushed one after the other, up to the first that passes a limit.
use Rattle.std.proofs.Common.{◌≡◌, ℕ, ◌+◌, ◌<◌, ◌≤◌, List, [], ◌∷◌, ◌++◌, length, get_or, take, drop, slice_get, Option, Some, None, Result, Ok, Err, refl, sym, ◌∙◌, ap, subst, arith, inl, inr}
use Rattle.std.specs.Prelude.{◌↔◌}
use Rattle.std.specs.Result.{IsOk, IsErrOf}
use Rattle.std.proofs.lemmas.Bool.{cases_lt, lt-ltb, le-ltb, le-leb, lt-leb}
use Rattle.std.proofs.lemmas.List.{take_more, take_all, at_drop_more, at_drop_all}
use Rattle.std.proofs.lemmas.Option.{slice_get-get_or}
use Rattle.flat_tree.specs.declared.limits.TheConstants.{MAX_BLOCKS, MAX_BLOCK_BYTES, MAX_CORE_BYTES, MAX_BATCH_BLOCKS, MAX_BATCH_BYTES}
use Rattle.merkle_nodes.specs.declared.limit.Limit.{Limit}
use Rattle.merkle_nodes.specs.Joined.{Values}
use Rattle.merkle_nodes.specs.Nodes.{bytes_under}
use Rattle.merkle_batch.specs.Batch.{BatchView, HasBlocks, PushesBlock}
use Rattle.merkle_batch.specs.Limits.{FitsBytes, PassesBlock, PassesBatch, PassesBatchBytes, PassesBlocks, PassesBytes, block_limit, batch_limit, batch_bytes_limit, blocks_limit, bytes_limit}
use Rattle.node_set.specs.declared.fault.CoreFault.{CoreFault}
use Rattle.node_set.specs.Refuses.{or_else}
use Rattle.log_core.specs.Refusals.{limit_at, limit_in, limit_fault}

-- ---- one push

-- which answer a push gives
pub record Answers (view : BatchView) (size : ℕ) (result : Result (Unit {0}) Limit) : Type 0 where
  pub fits : FitsBytes view size → IsOk result
  pub block : PassesBlock size → IsErrOf result block_limit
  pub batch : PassesBatch view size → IsErrOf result batch_limit
  pub batch_bytes : PassesBatchBytes view size → IsErrOf result batch_bytes_limit
  pub blocks : PassesBlocks view size → IsErrOf result blocks_limit
  pub bytes : PassesBytes view size → IsErrOf result bytes_limit

pub push_answers : {batch : BatchView} {size : ℕ} {result : Result (Unit {0}) Limit} → IsOk result ↔ FitsBytes batch size
    → IsErrOf result block_limit ↔ PassesBlock size → IsErrOf result batch_limit ↔ PassesBatch batch size
    → IsErrOf result batch_bytes_limit ↔ PassesBatchBytes batch size → IsErrOf result blocks_limit ↔ PassesBlocks batch size
    → IsErrOf result bytes_limit ↔ PassesBytes batch size → Answers batch size result
push_answers fits block batch batch_bytes blocks bytes =
    record { fits = fits.1; block = block.1; batch = batch.1; batch_bytes = batch_bytes.1; blocks = blocks.1; bytes = bytes.1 }

fault_of_err : (result : Result (Unit {0}) Limit) (limit : Limit) → IsErrOf result limit → limit_fault result ≡ limit_fault (Err limit)
fault_of_err (Ok x) limit is = cc
fault_of_err (Err e) limit is = let same : e ≡ limit = cc in ap (λ (l : Limit). limit_fault (Err l)) same

fault_of_ok : (result : Result (Unit {0}) Limit) → IsOk result → limit_fault result ≡ None
fault_of_ok (Ok x) is = refl
fault_of_ok (Err e) is = cc

-- it is the first limit that the block passes
pub push_limit : (batch : BatchView) (size bytes : ℕ) (result : Result (Unit {0}) Limit) → bytes_under batch.roots ≡ bytes + batch.bytes
    → Answers batch size result → limit_fault result ≡ limit_at batch.base bytes batch.blocks batch.bytes size
push_limit batch size bytes result total answers = elim (cases_lt MAX_BLOCK_BYTES size) [
  | inl past ↦ fault_of_err result block_limit (answers.block past) ∙ rw (lt-ltb MAX_BLOCK_BYTES size past) refl
  | inr block ↦ rw (le-ltb MAX_BLOCK_BYTES size block) (elim (cases_lt batch.blocks MAX_BATCH_BLOCKS) [
    | inr past ↦ fault_of_err result batch_limit (answers.batch (block, past)) ∙ rw (le-leb MAX_BATCH_BLOCKS batch.blocks past) refl
    | inl few ↦ rw (lt-leb MAX_BATCH_BLOCKS batch.blocks few) (elim (cases_lt MAX_BATCH_BYTES (batch.bytes + size)) [
      | inl past ↦ fault_of_err result batch_bytes_limit (answers.batch_bytes ((block, few), past)) ∙ rw (lt-ltb MAX_BATCH_BYTES (batch.bytes + size) past) refl
      | inr less ↦ rw (le-ltb MAX_BATCH_BYTES (batch.bytes + size) less) (elim (cases_lt (batch.base + batch.blocks) MAX_BLOCKS) [
        | inr past ↦ fault_of_err result blocks_limit (answers.blocks (((block, few), less), past)) ∙ rw (le-leb MAX_BLOCKS (batch.base + batch.blocks) past) refl
        | inl within ↦ rw (lt-leb MAX_BLOCKS (batch.base + batch.blocks) within) (elim (cases_lt MAX_CORE_BYTES (bytes + batch.bytes + size)) [
          | inl past ↦
              fault_of_err result bytes_limit (answers.bytes ((((block, few), less), within), (omega (arith, past, total))))
              ∙ rw (lt-ltb MAX_CORE_BYTES (bytes + batch.bytes + size) past) refl
          | inr most ↦
              fault_of_ok result (answers.fits ((((block, few), less), within), (omega (arith, most, total))))
              ∙ rw (le-ltb MAX_CORE_BYTES (bytes + batch.bytes + size) most) refl
        ])
      ])
    ])
  ])
]

-- ---- one after the other

-- what was pushed behind a batch, of all blocks
pub record HasPushed (first : BatchView) (log : List (List ℕ)) (place : ℕ) (batch : BatchView) : Type 0 where
  pub room : batch.room ≡ first.room
  pub base : batch.base ≡ first.base
  pub blocks : batch.blocks ≡ place
  pub total : bytes_under batch.roots ≡ bytes_under first.roots + batch.bytes
  pub held : (known : Values) → HasBlocks known [] first → HasBlocks known (take place log) batch
  pub limits : limit_in first.base (bytes_under first.roots) 0 0 log
      ≡ limit_in first.base (bytes_under first.roots) place batch.bytes (drop place log)

pub HasPushed-start : (first : BatchView) (log : List (List ℕ)) → first.blocks ≡ 0 → first.bytes ≡ 0 → HasPushed first log 0 first
HasPushed-start first log blocks bytes = record {
  room = refl;
  base = refl;
  blocks = blocks;
  total = omega (arith, bytes);
  held = λ known none. none;
  limits = ap (λ (n : ℕ). limit_in first.base (bytes_under first.roots) 0 n log) (sym bytes);
}

module _ (first : BatchView) (log : List (List ℕ)) (place : ℕ) (block : List ℕ) (old : BatchView) (result : Result (Unit {0}) Limit)
    (less : place < length log) (there : slice_get log place ≡ Some block) (pushed : HasPushed first log place old)
    (answers : Answers old (length block) result) where
  block_is : get_or log place [] ≡ block
  block_is = let found = slice_get-get_or log place [] less in cc

  -- the limits of the rest, from the block on
  limits_here : limit_in first.base (bytes_under first.roots) 0 0 log
      ≡ or_else (limit_fault result) (limit_in first.base (bytes_under first.roots) (place + 1) (old.bytes + length block) (drop (place + 1) log))
  unfolding limit_in
  limits_here =
      let limits = limit_in first.base (bytes_under first.roots) in
      let here : limit_fault result ≡ limit_at first.base (bytes_under first.roots) place old.bytes (length block) =
      push_limit old (length block) (bytes_under first.roots) result pushed.total answers
      ∙ ap (λ (b : ℕ). limit_at b (bytes_under first.roots) old.blocks old.bytes (length block)) pushed.base
      ∙ ap (λ (k : ℕ). limit_at first.base (bytes_under first.roots) k old.bytes (length block)) pushed.blocks in
      pushed.limits
      ∙ at_drop_more (limits place old.bytes) log place [] less
      ∙ ap (λ (b : List ℕ). limits place old.bytes (b ∷ drop (place + 1) log)) block_is
      ∙ ap (λ (o : Option CoreFault). or_else o (limits (place + 1) (old.bytes + length block) (drop (place + 1) log))) (sym here)

  -- a refused block's limit is the first of all
  pub refused_limit : (limit : Limit) → result ≡ Err limit → limit_fault (Err limit) ≡ limit_in first.base (bytes_under first.roots) 0 0 log
  refused_limit limit is =
      sym (limits_here
      ∙ ap (λ (r : Result (Unit {0}) Limit).
      or_else (limit_fault r) (limit_in first.base (bytes_under first.roots) (place + 1) (old.bytes + length block) (drop (place + 1) log))) is)

  pub HasPushed-step : (new : BatchView) → result ≡ Ok tt → PushesBlock block old new → HasPushed first log (place + 1) new
  HasPushed-step new is_ok pushes =
      let limits = limit_in first.base (bytes_under first.roots) in
      let more : take (place + 1) log ≡ take place log ++ block ∷ [] =
      take_more log place [] less ∙ ap (λ (b : List ℕ). take place log ++ b ∷ []) block_is in
      record {
        room = pushes.room ∙ pushed.room;
        base = pushes.base ∙ pushed.base;
        blocks = pushes.blocks ∙ ap (λ (n : ℕ). n + 1) pushed.blocks;
        total = omega (arith, pushes.total, pushes.bytes, pushed.total);
        held = λ known none.
            subst (λ (blocks : List (List ℕ)). HasBlocks known blocks new) (sym more) (pushes.held known (take place log) (pushed.held known none));
        limits =
            limits_here
            ∙ ap (λ (o : Option CoreFault). or_else o (limits (place + 1) (old.bytes + length block) (drop (place + 1) log))) (ap limit_fault is_ok)
            ∙ ap (λ (n : ℕ). limits (place + 1) n (drop (place + 1) log)) (sym pushes.bytes);
      }

-- all of them
module _ (first : BatchView) (log : List (List ℕ)) (place : ℕ) (batch : BatchView) (end : length log ≤ place) (pushed : HasPushed first log place batch) where
  pub all_fit : None ≡ limit_in first.base (bytes_under first.roots) 0 0 log
  unfolding limit_in
  all_fit = sym (pushed.limits ∙ at_drop_all (limit_in first.base (bytes_under first.roots) place batch.bytes) log place end)

  pub all_held : (known : Values) → HasBlocks known [] first → HasBlocks known log batch
  all_held known none = subst (λ (blocks : List (List ℕ)). HasBlocks known blocks batch) (take_all place log end) (pushed.held known none)
