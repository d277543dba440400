-- How lines are cut into batches, line by line.
use Rattle.std.proofs.Common.{◌≡◌, ◌≢◌, ℕ, ◌+◌, ◌-◌, ◌<◌, ◌≤◌, Bool, true, false, nat_lt, if◌then◌else◌, List, [], ◌∷◌, ◌++◌, length, take, refl, sym, ap, ◌∙◌, arith, append_assoc, append-nil, length-append}
use Rattle.std.specs.Prelude.{IsTrue, ◌||◌}
use Rattle.std.specs.List.{concat, sum_by}
use Rattle.outside_traits.specs.Lines.{lines_of}
use Rattle.std.proofs.lemmas.Bool.{le-ltb}
use Rattle.std.proofs.lemmas.Bool.Decides.{nat_tests}
use Rattle.std.proofs.lemmas.List.{take_at}
use Rattle.std.proofs.lemmas.List.Sums.{sum_by-cons, sum_by-append}
use Rattle.flat_tree.specs.declared.limits.TheConstants.{MAX_BLOCK_BYTES, MAX_BATCH_BLOCKS, MAX_BATCH_BYTES}
use Rattle.merkle_batch.specs.Batch.{bytes_of}
use Rattle.hypercore_cli.specs.Batches.{is_full_for, batches_from, batches_of, closed_of, last_of}
use Rattle.hypercore_cli.specs.Appends.{AreFirst, closed_by, opened_by}
use Rattle.hypercore_cli.proofs.LimitLemmas.{length-concat}

-- ---- one line

-- the test of a batch that may have more blocks
pub is_full_for-few : (batch : List (List ℕ)) (joined line : List ℕ) → length batch < MAX_BATCH_BLOCKS → joined ≡ concat batch
    → nat_lt MAX_BATCH_BYTES (length joined + length line) ≡ is_full_for MAX_BATCH_BLOCKS MAX_BATCH_BYTES batch line
is_full_for-few batch joined line few is =
    let same : length joined ≡ bytes_of batch = ap length is ∙ length-concat batch in
    let room : nat_lt MAX_BATCH_BLOCKS (length batch + 1) ≡ false = le-ltb MAX_BATCH_BLOCKS (length batch + 1) (omega (arith, few)) in
    rw (room, same) refl

-- a batch with no block has room for each line
empty_has_room : (line : List ℕ) → length line ≤ MAX_BLOCK_BYTES → is_full_for MAX_BATCH_BLOCKS MAX_BATCH_BYTES [] line ≡ false
empty_has_room line fit = le-ltb MAX_BATCH_BYTES (0 + length line) (omega (arith, fit))

-- the batches of an open one, which may have no block yet, and the lines behind it
abbrev batches_behind : List (List ℕ) → List (List ℕ) → List (List (List ℕ))
batches_behind [] rest = batches_of rest
batches_behind (block ∷ batch) rest = batches_from MAX_BATCH_BLOCKS MAX_BATCH_BYTES (block ∷ batch) rest

behind-line : (batch : List (List ℕ)) (line : List ℕ) (rest : List (List ℕ)) → length line ≤ MAX_BLOCK_BYTES
    → batches_behind batch (line ∷ rest) ≡ closed_by batch line ++ batches_behind (opened_by batch line) rest
behind-line [] line rest fit = rw (empty_has_room line fit) refl
behind-line (block ∷ batch) line rest fit = by_full (is_full_for MAX_BATCH_BLOCKS MAX_BATCH_BYTES (block ∷ batch) line)
  where
    by_full : (full : Bool)
        → (let behind = batches_from MAX_BATCH_BLOCKS MAX_BATCH_BYTES (if full then line ∷ [] else (block ∷ batch) ++ line ∷ []) rest in
        if full then (block ∷ batch) ∷ behind else behind)
        ≡ (if full then (block ∷ batch) ∷ [] else []) ++ batches_behind (if full then line ∷ [] else (block ∷ batch) ++ line ∷ []) rest
    by_full true = refl
    by_full false = refl

opened_by-some : (batch : List (List ℕ)) (line : List ℕ) → opened_by batch line ≢ []
opened_by-some batch line = by_full (is_full_for MAX_BATCH_BLOCKS MAX_BATCH_BYTES batch line) batch
  where
    by_full : (full : Bool) (old : List (List ℕ)) → (if full then line ∷ [] else old ++ line ∷ []) ≢ []
    by_full true old = λ e. cc
    by_full false [] = λ e. cc
    by_full false (block ∷ old) = λ e. cc

behind-end : (batch : List (List ℕ)) → batches_behind batch [] ≡ last_of batch
behind-end [] = refl
behind-end (block ∷ batch) = refl

-- a batch that is open has no more blocks than one may have
opened_by-few : (batch : List (List ℕ)) (line : List ℕ) → length (opened_by batch line) ≤ MAX_BATCH_BLOCKS
opened_by-few batch line = by_full (is_full_for MAX_BATCH_BLOCKS MAX_BATCH_BYTES batch line) refl
  where
    by_full : (full : Bool) → is_full_for MAX_BATCH_BLOCKS MAX_BATCH_BYTES batch line ≡ full
        → length (if full then line ∷ [] else batch ++ line ∷ []) ≤ MAX_BATCH_BLOCKS
    by_full true is = omega arith
    by_full false is =
        let tests : (nat_lt MAX_BATCH_BLOCKS (length batch + 1) || nat_lt MAX_BATCH_BYTES (bytes_of batch + length line)) ≡ false = is in
        let few : length batch + 1 ≤ MAX_BATCH_BLOCKS = grind (arith, nat_tests, tests) in
        omega (arith, few, length-append batch (line ∷ []))

-- a line is one block more
line_counts : (batch : List (List ℕ)) (line : List ℕ) → sum_by length (closed_by batch line) + length (opened_by batch line) ≡ length batch + 1
line_counts batch line = by_full (is_full_for MAX_BATCH_BLOCKS MAX_BATCH_BYTES batch line)
  where
    by_full : (full : Bool) → sum_by length (if full then batch ∷ [] else []) + length (if full then line ∷ [] else batch ++ line ∷ []) ≡ length batch + 1
    by_full true = omega (arith, sum_by-cons length batch [])
    by_full false = omega (arith, length-append batch (line ∷ []))

-- ---- the lines so far

-- of these lines these batches are closed, and this one is open
pub record HasCut (met : List (List ℕ)) (closed : List (List (List ℕ))) (batch : List (List ℕ)) : Type 0 where
  pub goes_on : (more : List (List ℕ)) → batches_of (met ++ more) ≡ closed ++ batches_behind batch more
  pub none : batch ≡ [] → closed ≡ []
  pub few : length batch ≤ MAX_BATCH_BLOCKS
  pub count : sum_by length closed + length batch ≡ length met

pub HasCut-none : HasCut [] [] []
HasCut-none = record { goes_on = λ more. refl; none = λ e. refl; few = omega arith; count = refl }

-- one line more
pub HasCut-line : (met : List (List ℕ)) (closed : List (List (List ℕ))) (batch : List (List ℕ)) (line : List ℕ) → length line ≤ MAX_BLOCK_BYTES
    → HasCut met closed batch
    → HasCut (met ++ line ∷ []) (closed ++ closed_by batch line) (opened_by batch line)
HasCut-line met closed batch line fit cut = record {
  goes_on = λ more.
      ap batches_of (append_assoc met (line ∷ []) more) ∙ cut.goes_on (line ∷ more) ∙ ap (λ l. closed ++ l) (behind-line batch line more fit)
      ∙ sym (append_assoc closed (closed_by batch line) (batches_behind (opened_by batch line) more));
  none = λ empty. absurd (opened_by-some batch line empty);
  few = opened_by-few batch line;
  count = omega (arith, cut.count, line_counts batch line, sum_by-append length closed (closed_by batch line), length-append met (line ∷ []));
}

-- no line more
pub HasCut-end : (met : List (List ℕ)) (closed : List (List (List ℕ))) (batch : List (List ℕ)) → HasCut met closed batch
    → batches_of met ≡ closed ++ last_of batch
HasCut-end met closed batch cut = ap batches_of (sym (append-nil met)) ∙ cut.goes_on [] ∙ ap (λ l. closed ++ l) (behind-end batch)

-- all but the last
all_but_last : (batches : List (List (List ℕ))) (last : List (List ℕ)) → take (length (batches ++ last ∷ []) - 1) (batches ++ last ∷ []) ≡ batches
all_but_last batches last = take_at batches (last ∷ []) (length (batches ++ last ∷ []) - 1) (omega (arith, length-append batches (last ∷ [])))

pub HasCut-closed : (met : List (List ℕ)) (closed : List (List (List ℕ))) (batch : List (List ℕ)) → HasCut met closed batch → closed_of met ≡ closed
HasCut-closed met closed [] cut =
    let none : closed ≡ [] = cut.none refl in
    ap (λ (l : List (List (List ℕ))). take (length l - 1) l) (HasCut-end met closed [] cut ∙ ap (λ l. l ++ []) none) ∙ sym none
HasCut-closed met closed (block ∷ batch) cut =
    ap (λ (l : List (List (List ℕ))). take (length l - 1) l) (HasCut-end met closed (block ∷ batch) cut) ∙ all_but_last closed (block ∷ batch)

-- ---- the batches of an input

-- the closed batches come first, whatever lines follow
pub closed_first : (met : List (List ℕ)) (closed : List (List (List ℕ))) (batch : List (List ℕ)) (bytes front : List ℕ) (ended : Bool) → HasCut met closed batch
    → ((left : List ℕ) → (IsTrue ended → left ≡ []) → lines_of (bytes ++ left) ≡ met ++ lines_of (front ++ left)) → AreFirst bytes ended closed
closed_first met closed batch bytes front ended cut lines left may =
    (batches_behind batch (lines_of (front ++ left)), ap batches_of (lines left may) ∙ cut.goes_on (lines_of (front ++ left)))

-- all are the first where the input ended
pub all_first : (bytes : List ℕ) → AreFirst bytes true (batches_of (lines_of bytes))
all_first bytes left none = (
  [],
  ap (λ l. batches_of (lines_of (bytes ++ l))) (none refl) ∙ ap (λ l. batches_of (lines_of l)) (append-nil bytes)
      ∙ sym (append-nil (batches_of (lines_of bytes))),
)
