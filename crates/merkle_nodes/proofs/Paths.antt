-- A path that is climbed step by step.
use Rattle.std.proofs.Common.{◌≡◌, ℕ, zero, suc, ◌+◌, ◌-◌, ◌*◌, ◌/◌, ◌%◌, ◌^◌, ◌<◌, ◌≤◌, true, false, ◌==◌, if◌then◌else◌, List, [], ◌∷◌, length, get_or, drop, refl, sym, ap, ◌∙◌, arith, add-one, drop-cons}
use Rattle.std.proofs.Math.Nat.{pow-succ'}
use Rattle.std.proofs.lemmas.List.{drop_all}
use Rattle.std.specs.List.{AllByRecursion}
use Rattle.flat_tree.specs.declared.limits.TheConstants.{MAX_CORE_BYTES, MAX_DEPTH, MAX_COUNT, MAX_SIBLINGS}
use Rattle.merkle_nodes.specs.declared.node.Twig.{Twig}
use Rattle.merkle_nodes.specs.Bundle.{TwigFits}
use Rattle.merkle_nodes.specs.Fold.{join, fold_from, offset_above}
use Rattle.merkle_nodes.specs.Tree.{parent_of}

-- so many siblings of the path were joined
pub record HasClimbed (offset : ℕ) (node : Twig) (trail : List Twig) (above : ℕ) (top : Twig) (i : ℕ) : Type 0 where
  pub offsets : offset_above above (drop i trail) ≡ offset_above offset trail
  pub tops : fold_from above top (drop i trail) ≡ fold_from offset node trail
  pub within : above ≤ 2 ^ (MAX_DEPTH - i)
  pub size : top.size ≤ (i + 1) * MAX_CORE_BYTES

-- each twig of the trail fits
pub twig_fits : (trail : List Twig) (i : ℕ) (d : Twig) → AllByRecursion TwigFits trail → i < length trail → TwigFits (get_or trail i d)
twig_fits [] i d fits more = absurd (omega (arith, more))
twig_fits (twig ∷ trail) zero d fits more = fits.0
twig_fits (twig ∷ trail) (suc i) d fits more = twig_fits trail i d fits.1 (omega (arith, more))

pub join-size : (offset : ℕ) (node sibling : Twig) → (join offset node sibling).size ≡ node.size + sibling.size
join-size offset node sibling = elim (offset % 2 == 1) as (λ b. (if b then parent_of sibling node else parent_of node sibling).size ≡ node.size + sibling.size) [
  | true ↦ omega arith
  | false ↦ refl
]

half_within : (above i : ℕ) → i < MAX_DEPTH → above ≤ 2 ^ (MAX_DEPTH - i) → above / 2 ≤ 2 ^ (MAX_DEPTH - (i + 1))
half_within above i more within =
    let double : 2 ^ (MAX_DEPTH - i) ≡ 2 * 2 ^ (MAX_DEPTH - (i + 1)) = ap (λ k. 2 ^ k) (omega (arith, more)) ∙ pow-succ' 2 (MAX_DEPTH - (i + 1)) in
    omega (arith, double, within)

pub HasClimbed-step : (offset : ℕ) (node : Twig) (trail : List Twig) (above : ℕ) (top sibling : Twig) (i : ℕ)
    → i < length trail → length trail ≤ MAX_SIBLINGS → sibling ≡ get_or trail i sibling → TwigFits sibling
    → HasClimbed offset node trail above top i → HasClimbed offset node trail (above / 2) (join above top sibling) (i + 1)
unfolding fold_from offset_above
HasClimbed-step offset node trail above top sibling i more few is fits so_far =
    let next : drop i trail ≡ sibling ∷ drop (i + 1) trail = drop-cons trail i sibling more ∙ ap (λ t. t ∷ drop (suc i) trail) (sym is) ∙ ap (λ j. sibling ∷ drop j trail) (sym (add-one i)) in
    record {
      offsets = ap (offset_above above) (sym next) ∙ so_far.offsets;
      tops = ap (fold_from above top) (sym next) ∙ so_far.tops;
      within = half_within above i (omega (arith, more, few)) so_far.within;
      size = omega (arith, join-size above top sibling, so_far.size, fits.size);
    }

pub HasClimbed-done : (offset : ℕ) (node : Twig) (trail : List Twig) (above : ℕ) (top : Twig) (i : ℕ)
    → length trail ≤ i → HasClimbed offset node trail above top i
    → (above ≡ offset_above offset trail) × (top ≡ fold_from offset node trail)
unfolding fold_from offset_above
HasClimbed-done offset node trail above top i end climbed =
    let none = drop_all i trail end in
    (ap (offset_above above) (sym none) ∙ climbed.offsets, ap (fold_from above top) (sym none) ∙ climbed.tops)
