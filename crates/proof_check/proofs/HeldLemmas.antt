-- Whether blocks are held under the subtrees over a log's end.
use Rattle.std.proofs.Common.{◌≡◌, ℕ, zero, suc, Bool, true, false, ◌+◌, ◌-◌, ◌*◌, ◌/◌, ◌%◌, ◌^◌, ◌<◌, ◌≤◌, inl, inr, refl, sym, ap, subst, ◌∙◌, arith, add-one}
use Rattle.std.specs.Prelude.{◌||◌}
use Rattle.std.proofs.lemmas.Bool.{cases_eq, cases_Bool}
use Rattle.std.proofs.lemmas.Nat.{pow_pos, mul-le}
use Rattle.flat_tree.specs.Subtrees.{first_block_of, end_block_of}
use Rattle.flat_tree.specs.Roots.{depth_over}
use Rattle.flat_tree.specs.declared.limits.TheConstants.{MAX_BLOCKS, MAX_DEPTH, MAX_SIBLINGS}
use Rattle.flat_tree.proofs.NumberLemmas.{first-suc, end_first, inside_of}
use Rattle.node_set.specs.Closure.{any_under, in_closure, IsFullRoot}
use Rattle.node_set.proofs.ClosureLemmas.{half_left, halves_in_closure, closure_under, any_under-held, any_under-up}
use Rattle.node_set.proofs.PathLemmas.{place_fits}
use Rattle.node_set.proofs.Stored.{over-suc}
use Rattle.proof_check.specs.Growth.{last_over, IsFirstHeld}
use Rattle.proof_check.proofs.Splitting.{row_of, next_first}
use Rattle.proof_check.proofs.Overs.{over_past}

-- a leaf has its block alone
pub any_leaf : (held : ℕ → Bool) (depth o : ℕ) → depth ≡ 0 → held o ≡ any_under held depth o
unfolding any_under
any_leaf held depth o leaf = rw leaf refl

-- a subtree's place is below its end
pub place_below : (d o : ℕ) → o < end_block_of d o
unfolding end_block_of
place_below d o = omega (arith, mul-le (o + 1) 1 (o + 1) (2 ^ d) (omega arith) (omega (arith, pow_pos d)))

-- the left half's place in a row
pub half_fits : (depth o n : ℕ) → (depth ≡ 0 → ⊥) → end_block_of depth o ≤ n → n ≤ MAX_BLOCKS → depth ≤ MAX_SIBLINGS → 2 * o ≤ 2 ^ (MAX_DEPTH - (depth - 1))
half_fits zero o n some within few low = absurd (some refl)
half_fits (suc d) o n some within few low =
    let first = first-suc d o in
    let fits = place_fits (first_block_of d (2 * o)) d (omega (arith, first, end_first (suc d) o, within, few)) (omega (arith, low)) in
    let same : suc d - 1 ≡ d = omega arith in
    rw same (omega (arith, fits, row_of d (2 * o)))

-- the left half is stored exactly where a block under the parent is held
pub left_stored : (n : ℕ) (held : ℕ → Bool) (depth o : ℕ) → (depth ≡ 0 → ⊥) → end_block_of depth o ≤ n
    → in_closure n held (depth - 1) (2 * o) ≡ any_under held depth o
left_stored n held zero o some within = absurd (some refl)
left_stored n held (suc d) o some within =
    let same : suc d - 1 ≡ d = omega arith in
    rw same (elim (cases_Bool (any_under held (suc d) o)) [
      | inl any ↦ halves_in_closure n held d o (2 * o) (half_left o) any within ∙ sym any
      | inr none ↦ elim (cases_Bool (in_closure n held d (2 * o))) [
        | inl stored ↦ let clash : true ≡ false = sym (closure_under n held d o (2 * o) (half_left o) stored within) ∙ none in cc
        | inr absent ↦ absent ∙ sym none
      ]
    ])

-- ---- along the path of the last block

-- no block past the end is held
pub none_past : (n : ℕ) (held : ℕ → Bool) (d o : ℕ) → ((index : ℕ) → held index ≡ true → index < n) → n ≤ first_block_of d o → any_under held d o ≡ false
none_past n held d o below past = elim (cases_Bool (any_under held d o)) [
  | inr none ↦ none
  | inl any ↦
      let there = any_under-held held d o any in
      absurd (omega (arith, below there.index there.is_held, there.under.0, past))
]

any_halves : (held : ℕ → Bool) (d o : ℕ) → any_under held (suc d) o ≡ (any_under held d (2 * o) || any_under held d (2 * o + 1))
unfolding any_under
any_halves held d o = refl

-- one level further without a held block
pub none_next : (n : ℕ) (held : ℕ → Bool) (level : ℕ) → 0 < n → ((index : ℕ) → held index ≡ true → index < n) → any_under held level (last_over n level) ≡ false
    → (last_over n level % 2 ≡ 1 → any_under held level (last_over n level - 1) ≡ false) → any_under held (suc level) (last_over n (suc level)) ≡ false
none_next n held level some below here left =
    let up : last_over n level / 2 ≡ last_over n (suc level) = over-suc (n - 1) level in
    any_halves held level (last_over n (suc level)) ∙ elim (cases_eq (last_over n level % 2) 1) [
      | inl odd ↦
          let own : 2 * last_over n (suc level) + 1 ≡ last_over n level = omega (arith, up, odd) in
          let other : 2 * last_over n (suc level) ≡ last_over n level - 1 = omega (arith, up, odd) in
          rw (own, other, here, left odd) refl
      | inr even ↦
          let own : 2 * last_over n (suc level) ≡ last_over n level = omega (arith, up, even) in
          let next : first_block_of level (last_over n level + 1) ≡ end_block_of level (last_over n level) = sym (next_first level (last_over n level)) in
          let inside = inside_of level (n - 1) in
          let behind = none_past n held level (last_over n level + 1) below (omega (arith, next, inside, some)) in
          rw (own, here, behind) refl
    ]

-- one level further with one
pub some_next : (n : ℕ) (held : ℕ → Bool) (level o : ℕ) → o / 2 ≡ last_over n (suc level) → any_under held level o ≡ true
    → any_under held (suc level) (last_over n (suc level)) ≡ true
some_next n held level o up any = ap (any_under held (suc level)) (sym up) ∙ any_under-up held level o any

-- ---- roots

-- the left sibling of a node over the last block is a full root
pub left_is_root : (n level : ℕ) → 0 < n → depth_over n (n - 1) ≤ level → last_over n level % 2 ≡ 1 → IsFullRoot n level (last_over n level - 1)
left_is_root n level some high odd =
    let up : last_over n level / 2 ≡ last_over n (suc level) = over-suc (n - 1) level in
    let half : (last_over n level - 1) / 2 ≡ last_over n (suc level) = omega (arith, up, odd) in
    let past = over_past n (n - 1) (suc level) (omega (arith, some)) (omega (arith, high)) in
    let inside = inside_of level (n - 1) in
    let next : first_block_of level (last_over n level - 1 + 1) ≡ first_block_of level (last_over n level) = ap (first_block_of level) (omega (arith, odd)) in
    record {
      within = omega (arith, next_first level (last_over n level - 1), next, inside);
      largest = subst (λ (o : ℕ). n < end_block_of (suc level) o) (sym half) past;
    }

-- ---- the search for the first level

-- no block is held under the subtree at this level, nor under those above lower ones
pub record IsSearched (base : ℕ) (held : ℕ → Bool) (low level : ℕ) : Type 0 where
  pub low_is : low ≤ level
  pub here : any_under held level (last_over base level) ≡ false
  pub none : (k : ℕ) → low ≤ k → k < level → any_under held (suc k) (last_over base (suc k)) ≡ false

pub first_low : (base : ℕ) (held : ℕ → Bool) (low top : ℕ) → low ≤ top → any_under held low (last_over base low) ≡ true → IsFirstHeld base held low top low
first_low base held low top ordered any = record {
  low_is = omega arith;
  within = ordered;
  none = λ k from below. absurd (omega (arith, from, below));
  some = λ _. some_next base held low (last_over base low) (over-suc (base - 1) low) any;
}

pub searched_start : (base : ℕ) (held : ℕ → Bool) (low : ℕ) → any_under held low (last_over base low) ≡ false → IsSearched base held low low
searched_start base held low none = record { low_is = omega arith; here = none; none = λ k from below. absurd (omega (arith, from, below)) }

module _ {base low level : ℕ} {held : ℕ → Bool} (searched : IsSearched base held low level) where
  pub searched_step : 0 < base → ((index : ℕ) → held index ≡ true → index < base)
      → (last_over base level % 2 ≡ 1 → any_under held level (last_over base level - 1) ≡ false) → IsSearched base held low (level + 1)
  searched_step some below left =
      let next = none_next base held level some below searched.here left in
      record {
        low_is = omega (arith, searched.low_is);
        here = ap (λ (k : ℕ). any_under held k (last_over base k)) (add-one level) ∙ next;
        none = λ k from lower. elim (cases_eq k level) [
          | inl same ↦ ap (λ (j : ℕ). any_under held (suc j) (last_over base (suc j))) same ∙ next
          | inr other ↦ searched.none k from (omega (arith, lower, other))
        ];
      }

  pub searched_found : (top : ℕ) → level < top → last_over base level % 2 ≡ 1 → any_under held level (last_over base level - 1) ≡ true
      → IsFirstHeld base held low top level
  searched_found top within odd any =
      let up : last_over base level / 2 ≡ last_over base (suc level) = over-suc (base - 1) level in
      record {
        low_is = searched.low_is;
        within = omega (arith, within);
        none = searched.none;
        some = λ _. some_next base held level (last_over base level - 1) (omega (arith, up, odd)) any;
      }

  pub searched_all : (top : ℕ) → level ≡ top → IsFirstHeld base held low top top
  searched_all top all = record {
    low_is = omega (arith, searched.low_is, all);
    within = omega arith;
    none = λ k from below. searched.none k from (omega (arith, below, all));
    some = λ less. absurd (omega (arith, less));
  }
