-- Of the subtrees that become full with a cover none comes twice, so their nodes ascend once they are in the order of their numbers.
use Rattle.std.proofs.Common.{◌≡◌, ℕ, zero, suc, ◌+◌, ◌<◌, ◌≤◌, inl, inr, List, [], ◌∷◌, ◌++◌, refl, sym, ap, subst, ◌∙◌, arith, add-one}
use Rattle.std.specs.List.{Contains, range_with_len}
use Rattle.std.specs.Int.{w64, trailing_ones}
use Rattle.std.proofs.lemmas.Bool.{cases_eq, cases_lt, eq-eqb, ne_eqb}
use Rattle.std.proofs.lemmas.List.{length-map}
use Rattle.std.proofs.lemmas.List.FromFn.{length-range_with_len, get_or-map-range_with_len}
use Rattle.std.proofs.lemmas.List.Sums.{sum_by-cons}
use Rattle.flat_tree.specs.Subtrees.{Subtree, subtree, number, numbers_of, end_block_of, Tile}
use Rattle.flat_tree.specs.Covers.{cover_of}
use Rattle.flat_tree.specs.declared.limits.TheConstants.{MAX_BLOCKS}
use Rattle.flat_tree.proofs.CoverLemmas.{tile-cover}
use Rattle.flat_tree.proofs.NumberLemmas.{some_number}
use Rattle.flat_tree.proofs.RootLemmas.{tile-le}
use Rattle.node_set.proofs.ClosureLemmas.{span_some}
use Rattle.log_change.proofs.InOrder.{one_if, many, many_in, many_append}
use Rattle.log_change.proofs.Named.{same_subtree}
use Rattle.root_stack.specs.Made.{ending_with, made_by}
use Rattle.root_stack.proofs.BecomesFull.{ending_only, end_fits, made-exact}
use Rattle.root_stack.proofs.Levels.{depth_up, offset_up, levels, levels-more}

-- a number isn't among those of other subtrees
none_of : (trees : List Subtree) (d o : ℕ) → (Contains trees (subtree d o) → ⊥) → many_in d o trees ≡ 0
none_of [] d o hasnt = refl
none_of (tree ∷ trees) d o hasnt = elim (cases_eq (number tree.depth tree.offset) (number d o)) [
  | inl same ↦
      let parts = same_subtree tree.depth tree.offset d o same in
      let is : tree ≡ subtree d o = ap (λ (k : ℕ). subtree k tree.offset) parts.0 ∙ ap (subtree d) parts.1 in
      absurd (hasnt (0, omega arith, is))
  | inr other ↦
      let here : one_if (number d o) (number tree.depth tree.offset) ≡ 0 = rw (ne_eqb (number tree.depth tree.offset) (number d o) other) refl in
      let sum = sum_by-cons (one_if (number d o)) (number tree.depth tree.offset) (numbers_of trees) in
      omega (arith, sum, here, none_of trees d o (λ there. hasnt (suc there.0, omega (arith, there.1), there.2)))
]

one_at_most : (tree : Subtree) (d o : ℕ) → many_in d o (tree ∷ []) ≤ 1
one_at_most tree d o =
    let sum = sum_by-cons (one_if (number d o)) (number tree.depth tree.offset) [] in
    elim (cases_eq (number tree.depth tree.offset) (number d o)) [
      | inl same ↦ let here : one_if (number d o) (number tree.depth tree.offset) ≡ 1 = rw (eq-eqb (number tree.depth tree.offset) (number d o) same) refl in omega (arith, sum, here)
      | inr other ↦ let here : one_if (number d o) (number tree.depth tree.offset) ≡ 0 = rw (ne_eqb (number tree.depth tree.offset) (number d o) other) refl in omega (arith, sum, here)
    ]

-- ---- over one subtree

levels_low : (tree : Subtree) (count d o : ℕ) → Contains (levels tree count) (subtree d o) → d < tree.depth + count
levels_low tree count d o (up, below, is) =
    let level = λ (u : ℕ). subtree (depth_up tree u) (offset_up tree u) in
    let less : up < count = omega (arith, below, length-map (range_with_len 0 count) level, length-range_with_len 0 count) in
    let same : level up ≡ subtree d o = sym (get_or-map-range_with_len level 0 count up up (subtree d o) less (omega arith)) ∙ is in
    omega (arith, less, ap (λ (t : Subtree). t.depth) same)

levels_once : (tree : Subtree) (count d o : ℕ) → many_in d o (levels tree count) ≤ 1
levels_once tree zero d o = omega arith
levels_once tree (suc count) d o =
    let last = subtree (depth_up tree count) (offset_up tree count) in
    let more : levels tree (suc count) ≡ levels tree count ++ last ∷ [] = ap (levels tree) (sym (add-one count)) ∙ levels-more tree count in
    let sum = ap (many_in d o) more ∙ many_append d o (levels tree count) (last ∷ []) in
    elim (cases_lt d (depth_up tree count)) [
      | inl lower ↦
          let none = none_of (last ∷ []) d o (λ there. is_last there lower) in
          omega (arith, sum, none, levels_once tree count d o)
      | inr upper ↦
          let none = none_of (levels tree count) d o (λ there. omega (arith, levels_low tree count d o there, upper)) in
          omega (arith, sum, none, one_at_most last d o)
    ]
  where
    is_last : Contains (subtree (depth_up tree count) (offset_up tree count) ∷ []) (subtree d o) → d < depth_up tree count → ⊥
    is_last (zero, less, is) lower = omega (arith, lower, ap (λ (t : Subtree). t.depth) is)
    is_last (suc at, less, is) lower = omega (arith, less)

-- ---- over those of a tiling

ends_behind : (trees : List Subtree) (from to : ℕ) (tree : Subtree) → Tile trees from to → Contains trees tree → from < end_block_of tree.depth tree.offset
ends_behind [] from to tree tile (at, less, is) = absurd (omega (arith, less))
ends_behind (first ∷ trees) from to tree tile (zero, less, is) =
    omega (arith, tile.0, span_some first.depth first.offset, ap (λ (t : Subtree). end_block_of t.depth t.offset) is)
ends_behind (first ∷ trees) from to tree tile (suc at, less, is) =
    omega (arith, tile.0, span_some first.depth first.offset, ends_behind trees _ to tree tile.1 (at, omega (arith, less), is))

made_in : (trees : List Subtree) (from to d o : ℕ) → Tile trees from to → to ≤ MAX_BLOCKS → many_in d o (made_by trees) ≤ 1
made_in [] from to d o tile few = omega arith
made_in (tree ∷ trees) from to d o tile few =
    let sum = many_append d o (ending_with tree) (made_by trees) in
    let fits = end_fits tree (omega (arith, tile-le trees _ to tile.1, few)) in
    elim (cases_eq (end_block_of d o) (end_block_of tree.depth tree.offset)) [
      | inl ends ↦
          let none = none_of (made_by trees) d o (λ there.
          let one = (made-exact trees _ to d o tile.1 few).0 there in
          omega (arith, ends_behind trees _ to one.tree tile.1 one.is_one, one.ends, ends)) in
          omega (arith, sum, none, levels_once tree (trailing_ones w64 tree.offset + 1) d o)
      | inr other ↦
          let none = none_of (ending_with tree) d o (λ there. other (ending_only tree fits d o there).1) in
          omega (arith, sum, none, made_in trees _ to d o tile.1 few)
    ]

-- no number comes twice
pub made_once : (k from to : ℕ) → from ≤ to → to ≤ MAX_BLOCKS → many k (numbers_of (made_by (cover_of from to))) ≤ 1
made_once k from to ordered few =
    let at = some_number k in
    subst (λ (n : ℕ). many n (numbers_of (made_by (cover_of from to))) ≤ 1) (sym at.1.1)
    (made_in (cover_of from to) from to at.0 at.1.0 (tile-cover from to ordered) few)
