-- The batches of some blocks are the one right way to cut them.
use Rattle.std.proofs.Common.{◌≡◌, ℕ, ◌+◌, ◌<◌, ◌≤◌, Bool, true, false, nat_lt, if◌then◌else◌, List, [], ◌∷◌, ◌++◌, length, refl, sym, ap, ◌∙◌, subst, arith, append_assoc, append-nil, length-append}
use Rattle.std.specs.Prelude.{◌||◌}
use Rattle.std.specs.List.{AllByRecursion}
use Rattle.std.proofs.lemmas.List.Sums.{sum_by-cons, sum_by-append}
use Rattle.std.proofs.lemmas.Bool.{le-ltb}
use Rattle.std.proofs.lemmas.Bool.Decides.{nat_tests}
use Rattle.merkle_batch.specs.Batch.{bytes_of}
use Rattle.hypercore_cli.specs.Batches.{is_full_for, batches_from, batches_within, blocks_of, BatchFits, IsFullBefore, AreBatches}

bytes_of-push : (batch : List (List ℕ)) (block : List ℕ) → bytes_of (batch ++ block ∷ []) ≡ bytes_of batch + length block
bytes_of-push batch block = omega (arith, sum_by-append length batch (block ∷ []), sum_by-cons length block [])

module _ (most_blocks most_bytes : ℕ) where
  -- a batch that goes on within its limits has room for the next block
  has_room : (done : List (List ℕ)) (block : List ℕ) (more : List (List ℕ)) → BatchFits most_blocks most_bytes (done ++ block ∷ more)
      → is_full_for most_blocks most_bytes done block ≡ false
  has_room done block more fits =
      let few : nat_lt most_blocks (length done + 1) ≡ false =
      le-ltb most_blocks (length done + 1) (omega (arith, fits.few, length-append done (block ∷ more))) in
      let bytes : nat_lt most_bytes (bytes_of done + length block) ≡ false =
      le-ltb most_bytes (bytes_of done + length block) (omega (arith, fits.bytes, sum_by-append length done (block ∷ more), sum_by-cons length block more)) in
      rw (few, bytes) refl

  -- one that has room fits with it
  fits_with : (done : List (List ℕ)) (block : List ℕ) → is_full_for most_blocks most_bytes done block ≡ false
      → BatchFits most_blocks most_bytes (done ++ block ∷ [])
  fits_with done block is =
      let tests : (nat_lt most_blocks (length done + 1) || nat_lt most_bytes (bytes_of done + length block)) ≡ false = is in
      let few : length done + 1 ≤ most_blocks = grind (arith, nat_tests, tests) in
      let bytes : bytes_of done + length block ≤ most_bytes = grind (arith, nat_tests, tests) in
      record {
        some = omega (arith, length-append done (block ∷ []));
        few = omega (arith, few, length-append done (block ∷ []));
        bytes = omega (arith, bytes, bytes_of-push done block);
      }

  -- ---- they are cut right

  full_before : (batch : List (List ℕ)) (block : List ℕ) → is_full_for most_blocks most_bytes batch block ≡ true → (rest more : List (List ℕ))
      → IsFullBefore most_blocks most_bytes batch (batches_from most_blocks most_bytes (block ∷ more) rest)
  full_before batch block full [] more = full
  full_before batch block full (next ∷ rest) more =
      by_full (is_full_for most_blocks most_bytes (block ∷ more) next) (full_before batch block full rest (more ++ next ∷ []))
    where
      by_full : (test : Bool) → IsFullBefore most_blocks most_bytes batch (batches_from most_blocks most_bytes (block ∷ more ++ next ∷ []) rest)
          → (let behind = batches_from most_blocks most_bytes (if test then next ∷ [] else (block ∷ more) ++ next ∷ []) rest in
          IsFullBefore most_blocks most_bytes batch (if test then (block ∷ more) ∷ behind else behind))
      by_full true goes = full
      by_full false goes = goes

  from_fits : 0 < most_blocks → (rest : List (List ℕ)) → AllByRecursion (λ block. length block ≤ most_bytes) rest → (done : List (List ℕ))
      → BatchFits most_blocks most_bytes done → AreBatches most_blocks most_bytes (batches_from most_blocks most_bytes done rest)
  from_fits some [] all done fits = (fits, tt, tt)
  from_fits some (block ∷ rest) all done fits =
      by_full (is_full_for most_blocks most_bytes done block) refl (from_fits some rest all.1)
    where
      by_full : (test : Bool) → is_full_for most_blocks most_bytes done block ≡ test
          → ((now : List (List ℕ)) → BatchFits most_blocks most_bytes now → AreBatches most_blocks most_bytes (batches_from most_blocks most_bytes now rest))
          → (let behind = batches_from most_blocks most_bytes (if test then block ∷ [] else done ++ block ∷ []) rest in
          AreBatches most_blocks most_bytes (if test then done ∷ behind else behind))
      by_full true is goes = (
        fits,
        full_before done block is rest [],
        goes (block ∷ []) (record { some = omega arith; few = omega (arith, some); bytes = omega (arith, all.0, sum_by-cons length block []) }),
      )
      by_full false is goes = goes (done ++ block ∷ []) (fits_with done block is)

  pub within_fits : 0 < most_blocks → (blocks : List (List ℕ)) → AllByRecursion (λ block. length block ≤ most_bytes) blocks
      → AreBatches most_blocks most_bytes (batches_within most_blocks most_bytes blocks)
  within_fits some [] all = tt
  within_fits some (block ∷ rest) all =
      from_fits some rest all.1 (block ∷ [])
      (record { some = omega arith; few = omega (arith, some); bytes = omega (arith, all.0, sum_by-cons length block []) })

  -- ---- of all blocks

  from_joined : (rest done : List (List ℕ)) → blocks_of (batches_from most_blocks most_bytes done rest) ≡ done ++ rest
  from_joined [] done = refl
  from_joined (block ∷ rest) done = by_full (is_full_for most_blocks most_bytes done block) (from_joined rest)
    where
      by_full : (test : Bool) → ((now : List (List ℕ)) → blocks_of (batches_from most_blocks most_bytes now rest) ≡ now ++ rest)
          → (let behind = batches_from most_blocks most_bytes (if test then block ∷ [] else done ++ block ∷ []) rest in
          blocks_of (if test then done ∷ behind else behind) ≡ done ++ block ∷ rest)
      by_full true goes = ap (λ l. done ++ l) (goes (block ∷ []))
      by_full false goes = goes (done ++ block ∷ []) ∙ append_assoc done (block ∷ []) rest

  pub within_joined : (blocks : List (List ℕ)) → blocks_of (batches_within most_blocks most_bytes blocks) ≡ blocks
  within_joined [] = refl
  within_joined (block ∷ rest) = from_joined rest (block ∷ [])

  -- ---- and no other way is right

  only_more : (rest : List (List (List ℕ)))
      → ((done : List (List ℕ)) → IsFullBefore most_blocks most_bytes done rest → batches_from most_blocks most_bytes done (blocks_of rest) ≡ done ∷ rest)
      → (more done : List (List ℕ)) → BatchFits most_blocks most_bytes (done ++ more) → IsFullBefore most_blocks most_bytes (done ++ more) rest
      → batches_from most_blocks most_bytes done (more ++ blocks_of rest) ≡ (done ++ more) ∷ rest
  only_more rest ends [] done fits full =
      let same : done ++ [] ≡ done = append-nil done in
      ends done (subst (λ (l : List (List ℕ)). IsFullBefore most_blocks most_bytes l rest) same full) ∙ ap (λ (l : List (List ℕ)). l ∷ rest) (sym same)
  only_more rest ends (block ∷ more) done fits full =
      let same : (done ++ block ∷ []) ++ more ≡ done ++ block ∷ more = append_assoc done (block ∷ []) more in
      let goes = only_more rest ends more (done ++ block ∷ []) (subst (BatchFits most_blocks most_bytes) (sym same) fits)
      (subst (λ (l : List (List ℕ)). IsFullBefore most_blocks most_bytes l rest) (sym same) full) in
      rw (has_room done block more fits) (goes ∙ ap (λ (l : List (List ℕ)). l ∷ rest) same)

  only_ends : (rest : List (List (List ℕ))) → AreBatches most_blocks most_bytes rest → (done : List (List ℕ)) → IsFullBefore most_blocks most_bytes done rest
      → batches_from most_blocks most_bytes done (blocks_of rest) ≡ done ∷ rest
  only_ends [] each done full = refl
  only_ends ([] ∷ rest) each done full = absurd full
  only_ends ((block ∷ next) ∷ rest) each done full =
      rw full (ap (λ (l : List (List (List ℕ))). done ∷ l) (only_more rest (only_ends rest each.2) next (block ∷ []) each.0 each.1))

  pub only_right : (batches : List (List (List ℕ))) → AreBatches most_blocks most_bytes batches
      → batches_within most_blocks most_bytes (blocks_of batches) ≡ batches
  only_right [] each = refl
  only_right ([] ∷ rest) each = absurd (omega (arith, each.0.some))
  only_right ((block ∷ more) ∷ rest) each = only_more rest (only_ends rest each.2) more (block ∷ []) each.0 each.1
