-- Which limit lines pass first, and what lines within every limit are.
use Rattle.std.proofs.Common.{◌≡◌, ℕ, ◌+◌, ◌<◌, ◌≤◌, List, [], ◌∷◌, ◌++◌, length, Option, None, Some, refl, sym, ap, ◌∙◌, arith, length-append}
use Rattle.std.specs.List.{AllByRecursion, concat}
use Rattle.std.proofs.lemmas.List.Sums.{sum_by-cons}
use Rattle.std.proofs.lemmas.Bool.{lt-ltb}
use Rattle.std.proofs.lemmas.Bool.Decides.{nat_tests}
use Rattle.flat_tree.specs.declared.limits.TheConstants.{MAX_BLOCK_BYTES, MAX_BATCH_BLOCKS, MAX_BATCH_BYTES}
use Rattle.merkle_nodes.specs.declared.limit.Limit.{Limit}
use Rattle.merkle_batch.specs.Batch.{bytes_of}
use Rattle.merkle_batch.specs.Honest.{BlockFits, AppendFits}
use Rattle.merkle_batch.specs.Limits.{block_limit}
use Rattle.hypercore_cli.specs.LineLimits.{limit_at, or_else, limit_in}

-- ---- one line

limit_at-block : (lines bytes size : ℕ) → MAX_BLOCK_BYTES < size → limit_at lines bytes size ≡ Some block_limit
limit_at-block lines bytes size over = rw (lt-ltb MAX_BLOCK_BYTES size over) refl

-- a line that passes no limit
record PassesNone (lines bytes size : ℕ) : Type 0 where
  block : size ≤ MAX_BLOCK_BYTES
  few : lines < MAX_BATCH_BLOCKS
  within : bytes + size ≤ MAX_BATCH_BYTES

PassesNone-size : (lines bytes size : ℕ) → limit_at lines bytes size ≡ None → PassesNone lines bytes size
PassesNone-size lines bytes size none = record { block = grind (arith, nat_tests); few = grind (arith, nat_tests); within = grind (arith, nat_tests) }

-- ---- some lines

or_else-none : (a b : Option Limit) → or_else a b ≡ None → (a ≡ None) × (b ≡ None)
or_else-none None b none = (refl, none)
or_else-none (Some limit) b none = absurd cc

first_or : (first then_a then_b : Option Limit) (limit : Limit) → (then_a ≡ Some limit → then_b ≡ Some limit) → or_else first then_a ≡ Some limit
    → or_else first then_b ≡ Some limit
first_or None then_a then_b limit same passes = same passes
first_or (Some other) then_a then_b limit same passes = passes

pub length-concat : (log : List (List ℕ)) → length (concat log) ≡ bytes_of log
length-concat [] = refl
length-concat (line ∷ log) = length-append line (concat log) ∙ ap (λ n. length line + n) (length-concat log) ∙ sym (sum_by-cons length line log)

-- the same counts, written otherwise
limit_in-same : (lines bytes lines_too bytes_too : ℕ) (rest : List (List ℕ)) → lines ≡ lines_too → bytes ≡ bytes_too
    → limit_in lines bytes rest ≡ limit_in lines_too bytes_too rest
limit_in-same lines bytes lines_too bytes_too rest a b = ap (λ (n : ℕ). limit_in n bytes rest) a ∙ ap (λ (n : ℕ). limit_in lines_too n rest) b

-- behind lines that pass no limit
limit_in-append : (lines bytes : ℕ) (front back : List (List ℕ)) → limit_in lines bytes front ≡ None
    → limit_in lines bytes (front ++ back) ≡ limit_in (lines + length front) (bytes + bytes_of front) back
limit_in-append lines bytes [] back none = limit_in-same _ _ _ _ back (omega arith) (omega arith)
limit_in-append lines bytes (line ∷ front) back none =
    let parts = or_else-none (limit_at lines bytes (length line)) (limit_in (lines + 1) (bytes + length line) front) none in
    ap (λ o. or_else o (limit_in (lines + 1) (bytes + length line) (front ++ back))) parts.0
    ∙ limit_in-append (lines + 1) (bytes + length line) front back parts.1
    ∙ limit_in-same _ _ _ _ back (omega arith) (omega (arith, sum_by-cons length line front))

-- whatever more lines there are
pub limit_in-front : (lines bytes : ℕ) (front back : List (List ℕ)) (limit : Limit) → limit_in lines bytes front ≡ Some limit
    → limit_in lines bytes (front ++ back) ≡ Some limit
limit_in-front lines bytes [] back limit passes = absurd cc
limit_in-front lines bytes (line ∷ front) back limit passes =
    first_or (limit_at lines bytes (length line)) (limit_in (lines + 1) (bytes + length line) front) _ limit
    (limit_in-front (lines + 1) (bytes + length line) front back limit) passes

-- the line that passes a limit behind lines that pass none
limit_in-line : (log : List (List ℕ)) (line : List ℕ) (rest : List (List ℕ)) (limit : Limit) → limit_in 0 0 log ≡ None
    → limit_at (length log) (bytes_of log) (length line) ≡ Some limit → limit_in 0 0 (log ++ line ∷ rest) ≡ Some limit
limit_in-line log line rest limit none passes =
    limit_in-append 0 0 log (line ∷ rest) none ∙ limit_in-same _ _ (length log) (bytes_of log) (line ∷ rest) (omega arith) (omega arith)
    ∙ ap (λ o. or_else o (limit_in (length log + 1) (bytes_of log + length line) rest)) passes

-- a line too long
pub limit_in-block : (log : List (List ℕ)) (line : List ℕ) (rest : List (List ℕ)) → limit_in 0 0 log ≡ None → MAX_BLOCK_BYTES < length line
    → limit_in 0 0 (log ++ line ∷ rest) ≡ Some block_limit
limit_in-block log line rest none over = limit_in-line log line rest block_limit none (limit_at-block (length log) (bytes_of log) (length line) over)

-- one more line, whose limit is looked for behind the joined bytes of the log
pub limit_in-line_joined : (log : List (List ℕ)) (line : List ℕ) (limit : Limit) → limit_in 0 0 log ≡ None
    → Some limit ≡ limit_at (length log) (length (concat log)) (length line) → limit_in 0 0 (log ++ line ∷ []) ≡ Some limit
limit_in-line_joined log line limit none passes =
    limit_in-line log line [] limit none (ap (λ (n : ℕ). limit_at (length log) n (length line)) (sym (length-concat log)) ∙ sym passes)

-- and none is passed
pub limit_in-push : (log : List (List ℕ)) (line : List ℕ) → limit_in 0 0 log ≡ None → None ≡ limit_at (length log) (length (concat log)) (length line)
    → limit_in 0 0 (log ++ line ∷ []) ≡ None
limit_in-push log line none fits =
    let same : limit_at (length log) (bytes_of log) (length line) ≡ None = ap (λ (n : ℕ). limit_at (length log) n (length line)) (sym (length-concat log)) ∙ sym fits in
    limit_in-append 0 0 log (line ∷ []) none ∙ limit_in-same _ _ (length log) (bytes_of log) (line ∷ []) (omega arith) (omega arith) ∙ ap (λ o. or_else o None) same

-- ---- lines within every limit

-- so many lines of so many bytes are within the limits of one append, and so is each of them
record IsWithin (lines bytes : ℕ) (log : List (List ℕ)) : Type 0 where
  few : lines + length log ≤ MAX_BATCH_BLOCKS
  fit : AllByRecursion BlockFits log
  within : bytes + bytes_of log ≤ MAX_BATCH_BYTES

IsWithin-none : (lines bytes : ℕ) (log : List (List ℕ)) → lines ≤ MAX_BATCH_BLOCKS → bytes ≤ MAX_BATCH_BYTES → limit_in lines bytes log ≡ None → IsWithin lines bytes log
IsWithin-none lines bytes [] few within none = record { few = omega (arith, few); fit = tt; within = omega (arith, within) }
IsWithin-none lines bytes (line ∷ log) few within none =
    let parts = or_else-none (limit_at lines bytes (length line)) (limit_in (lines + 1) (bytes + length line) log) none in
    let first = PassesNone-size lines bytes (length line) parts.0 in
    let rest = IsWithin-none (lines + 1) (bytes + length line) log (omega (arith, first.few)) first.within parts.1 in
    record { few = omega (arith, rest.few); fit = (first.block, rest.fit); within = omega (arith, rest.within, sum_by-cons length line log) }

-- a log whose lines pass no limit is no more than one append adds
pub AppendFits-log : (log : List (List ℕ)) → limit_in 0 0 log ≡ None → AppendFits log
AppendFits-log log none =
    let within = IsWithin-none 0 0 log (omega arith) (omega arith) none in
    record { few = omega (arith, within.few); fit = within.fit; bytes = omega (arith, within.within) }

-- nor are its joined bytes
pub joined-le : (log : List (List ℕ)) → limit_in 0 0 log ≡ None → length (concat log) ≤ MAX_BATCH_BYTES
joined-le log none = let fits = AppendFits-log log none in omega (arith, fits.bytes, length-concat log)
