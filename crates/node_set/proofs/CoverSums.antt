-- Sums over covers: the sum over a range is that over its parts, and is no less than any subtree's within it.
use Rattle.std.proofs.Common.{◌≡◌, ℕ, zero, suc, false, ◌+◌, ◌*◌, ◌/◌, ◌^◌, ◌<◌, ◌≤◌, inl, inr, List, [], ◌∷◌, refl, ap, ◌∙◌, arith}
use Rattle.std.specs.Prelude.{sum_by}
use Rattle.std.specs.List.{Contains}
use Rattle.std.proofs.lemmas.Bool.{cases_lt, cases_Bool}
use Rattle.std.proofs.lemmas.List.Sums.{sum_by-append}
use Rattle.flat_tree.specs.Subtrees.{Subtree, subtree, first_block_of, end_block_of}
use Rattle.flat_tree.specs.Covers.{cover_of}
use Rattle.flat_tree.proofs.NumberLemmas.{end_first}
use Rattle.flat_tree.proofs.RootLemmas.{below_pow}
use Rattle.node_set.specs.Closure.{is_between}
use Rattle.node_set.proofs.ClosureLemmas.{spans_meet}
use Rattle.std.proofs.lemmas.List.Sums.{sum_by-cons}
use Rattle.node_set.proofs.CoverLemmas.{IsBetween, between_true, true_between, not_between, false_between, IsCover, cover_under, under_between, under_leaf, under_halves, under_outside, cover_under-is, cover_has}

-- the sum of a number of each subtree
abbrev pub sum_over : (ℕ → ℕ → ℕ) → List Subtree → ℕ
sum_over f = sum_by (λ (tree : Subtree). f tree.depth tree.offset)

-- within the range, what is over the middle has the sum of its halves
abbrev pub AddsUp : (ℕ → ℕ → ℕ) → ℕ → ℕ → ℕ → Type 0
AddsUp f from mid to = (d o : ℕ) → from ≤ first_block_of (suc d) o → first_block_of (suc d) o < mid → mid < end_block_of (suc d) o → end_block_of (suc d) o ≤ to
    → f (suc d) o ≡ f d (2 * o) + f d (2 * o + 1)

-- the sum of one, of none, and of two walks
sum_one : (f : ℕ → ℕ → ℕ) (d o : ℕ) → sum_over f (subtree d o ∷ []) ≡ f d o
sum_one f d o = omega arith

sum_halves : (f : ℕ → ℕ → ℕ) (from to d o : ℕ) → is_between from to (suc d) o ≡ false
    → sum_over f (cover_under from to (suc d) o) ≡ sum_over f (cover_under from to d (2 * o)) + sum_over f (cover_under from to d (2 * o + 1))
sum_halves f from to d o apart =
    ap (sum_over f) (under_halves from to d o apart) ∙ sum_by-append _ (cover_under from to d (2 * o)) (cover_under from to d (2 * o + 1))

module _ (f : ℕ → ℕ → ℕ) (from mid to : ℕ) (low : from ≤ mid) (high : mid ≤ to) where
  -- a subtree's walks split at the middle
  abbrev Splits : ℕ → ℕ → Type 0
  Splits d o = sum_over f (cover_under from to d o) ≡ sum_over f (cover_under from mid d o) + sum_over f (cover_under mid to d o)

  split_before : (d o : ℕ) → IsBetween from to d o → end_block_of d o ≤ mid → Splits d o
  split_before d o between before =
      rw (
        under_between from to d o (between_true from to d o between),
        under_between from mid d o (between_true from mid d o (record { first = between.first; last = before })),
        under_outside mid to d o (inl before),
      ) (omega arith)

  split_behind : (d o : ℕ) → IsBetween from to d o → mid ≤ first_block_of d o → Splits d o
  split_behind d o between behind =
      rw (
        under_between from to d o (between_true from to d o between),
        under_outside from mid d o (inr behind),
        under_between mid to d o (between_true mid to d o (record { first = behind; last = between.last })),
      ) (omega arith)

  -- what isn't within the range is within neither part
  apart_before : (d o : ℕ) → is_between from to d o ≡ false → is_between from mid d o ≡ false
  apart_before d o apart =
      not_between from mid d o (λ between. false_between from to d o apart (record { first = between.first; last = omega (arith, between.last, high) }))

  apart_behind : (d o : ℕ) → is_between from to d o ≡ false → is_between mid to d o ≡ false
  apart_behind d o apart =
      not_between mid to d o (λ between. false_between from to d o apart (record { first = omega (arith, between.first, low); last = between.last }))

  split_apart : (d o : ℕ) → is_between from to (suc d) o ≡ false → Splits d (2 * o) → Splits d (2 * o + 1) → Splits (suc d) o
  split_apart d o apart left right =
      let whole = sum_halves f from to d o apart in
      let before = sum_halves f from mid d o (apart_before (suc d) o apart) in
      let behind = sum_halves f mid to d o (apart_behind (suc d) o apart) in
      omega (arith, whole, before, behind, left, right)

  split_over : (d o : ℕ) → AddsUp f from mid to → IsBetween from to (suc d) o → first_block_of (suc d) o < mid → mid < end_block_of (suc d) o
      → Splits d (2 * o) → Splits d (2 * o + 1) → Splits (suc d) o
  split_over d o adds between before behind left right =
      let meet = spans_meet d o in
      let in_left : IsBetween from to d (2 * o) = record { first = omega (arith, between, meet); last = omega (arith, between, meet) } in
      let in_right : IsBetween from to d (2 * o + 1) = record { first = omega (arith, between, meet); last = omega (arith, between, meet) } in
      let whole : sum_over f (cover_under from to (suc d) o) ≡ f (suc d) o =
      ap (sum_over f) (under_between from to (suc d) o (between_true from to (suc d) o between)) ∙ sum_one f (suc d) o in
      let whole_left : sum_over f (cover_under from to d (2 * o)) ≡ f d (2 * o) =
      ap (sum_over f) (under_between from to d (2 * o) (between_true from to d (2 * o) in_left)) ∙ sum_one f d (2 * o) in
      let whole_right : sum_over f (cover_under from to d (2 * o + 1)) ≡ f d (2 * o + 1) =
      ap (sum_over f) (under_between from to d (2 * o + 1) (between_true from to d (2 * o + 1) in_right)) ∙ sum_one f d (2 * o + 1) in
      let before_sum = sum_halves f from mid d o (not_between from mid (suc d) o (λ b. omega (arith, b.last, behind))) in
      let behind_sum = sum_halves f mid to d o (not_between mid to (suc d) o (λ b. omega (arith, b.first, before))) in
      omega (arith, adds d o between.first before behind between.last, whole, whole_left, whole_right, before_sum, behind_sum, left, right)

  split_under : AddsUp f from mid to → (d o : ℕ) → Splits d o
  split_under adds zero o = elim (cases_Bool (is_between from to zero o)) [
    | inl here ↦
        let between = true_between from to zero o here in
        elim (cases_lt (first_block_of zero o) mid) [
          | inl before ↦ split_before zero o between (omega (arith, before, end_first zero o))
          | inr behind ↦ split_behind zero o between behind
        ]
    | inr apart ↦ rw (under_leaf from to o apart, under_leaf from mid o (apart_before zero o apart), under_leaf mid to o (apart_behind zero o apart)) refl
  ]
  split_under adds (suc d) o =
      let left = split_under adds d (2 * o) in
      let right = split_under adds d (2 * o + 1) in
      elim (cases_Bool (is_between from to (suc d) o)) [
        | inr apart ↦ split_apart d o apart left right
        | inl here ↦
            let between = true_between from to (suc d) o here in
            elim (cases_lt (first_block_of (suc d) o) mid) [
              | inr behind ↦ split_behind (suc d) o between behind
              | inl before ↦ elim (cases_lt mid (end_block_of (suc d) o)) [
                | inr within ↦ split_before (suc d) o between within
                | inl over ↦ split_over d o adds between before over left right
              ]
            ]
      ]

-- the sum over a range's cover is that over the covers of its two parts
pub sum_cover-split : (f : ℕ → ℕ → ℕ) (from mid to : ℕ) → from ≤ mid → mid ≤ to → AddsUp f from mid to
    → sum_over f (cover_of from to) ≡ sum_over f (cover_of from mid) + sum_over f (cover_of mid to)
sum_cover-split f from mid to low high adds =
    let within : to ≤ 2 ^ to = omega (arith, below_pow to) in
    let split = split_under f from mid to low high adds to 0 in
    rw (
      ← cover_under-is to from to (omega (arith, low, high)) within,
      ← cover_under-is to from mid low (omega (arith, high, within)),
      ← cover_under-is to mid to high within,
    ) split

-- ---- bounds

-- the sum is no less than any of its numbers
sum_has : (f : ℕ → ℕ → ℕ) (trees : List Subtree) (tree : Subtree) → Contains trees tree → f tree.depth tree.offset ≤ sum_over f trees
sum_has f [] tree (k, less, is) = absurd (omega (arith, less))
sum_has f (x ∷ trees) tree (zero, less, is) =
    let same : f x.depth x.offset ≡ f tree.depth tree.offset = ap (λ (t : Subtree). f t.depth t.offset) is in
    omega (arith, same, sum_by-cons (λ (t : Subtree). f t.depth t.offset) x trees)
sum_has f (x ∷ trees) tree (suc k, less, is) =
    omega (arith, sum_has f trees tree (k, omega (arith, less), is), sum_by-cons (λ (t : Subtree). f t.depth t.offset) x trees)

-- a number that is no larger than that of the parent, as long as the parent is within the range, is no larger than the sum
module _ (f : ℕ → ℕ → ℕ) (from to : ℕ) (ordered : from ≤ to) (P : ℕ → ℕ → Type 0) where
  -- from what has the property up to its parent, if that is within the range
  abbrev pub Rises : Type 0
  Rises = (d o : ℕ) → P d o → IsBetween from to (suc d) (o / 2) → P (suc d) (o / 2) × (f d o ≤ f (suc d) (o / 2))

  rise : Rises → (k d o : ℕ) → to ≤ d + k → P d o → IsBetween from to d o → f d o ≤ sum_over f (cover_of from to)
  rise up zero d o high holds between = absurd (omega (arith, high, end_first d o, between, below_pow d))
  rise up (suc k) d o high holds between = elim (cases_Bool (is_between from to (suc d) (o / 2))) [
    | inr apart ↦
        let cover : IsCover from to d o = record { within = between_true from to d o between; largest = apart } in
        sum_has f (cover_of from to) (subtree d o) (cover_has from to d o ordered cover)
    | inl here ↦
        let above = true_between from to (suc d) (o / 2) here in
        let next = up d o holds above in
        omega (arith, next.1, rise up k (suc d) (o / 2) (omega (arith, high)) next.0 above)
  ]

  pub sum_cover-above : Rises → (d o : ℕ) → P d o → IsBetween from to d o → f d o ≤ sum_over f (cover_of from to)
  sum_cover-above up d o = rise up to d o (omega arith)
