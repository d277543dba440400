-- Which nodes are stored beside a stored one, where exactly those of the closure are.
use Rattle.std.proofs.Common.{◌≡◌, ℕ, zero, suc, ◌+◌, ◌*◌, ◌/◌, ◌%◌, ◌^◌, ◌<◌, ◌≤◌, ◌⊎◌, inl, inr, Bool, true, Some, None, refl, sym, ap, subst, ◌∙◌, arith, add-one}
use Rattle.std.specs.Prelude.{Option, is_some, not, ◌||◌}
use Rattle.std.proofs.lemmas.Bool.{cases_eq, cases_Bool, leb-true, leb-false, le-leb, and_parts, and_from, or_cases, or_left, or_right, not-true}
use Rattle.std.proofs.lemmas.Nat.{shr-shr}
use Rattle.flat_tree.specs.Subtrees.{end_block_of}
use Rattle.flat_tree.proofs.NumberLemmas.{end_first, end-suc, halves_meet}
use Rattle.merkle_nodes.specs.declared.node.Twig.{Twig}
use Rattle.merkle_nodes.specs.Tree.{parent_of}
use Rattle.node_set.specs.Contents.{Content, Values, held}
use Rattle.node_set.specs.Closure.{is_within, any_under, in_closure}
use Rattle.node_set.specs.Whole.{IsClosed, PairsAgree}

-- what is there has a value
pub some_of : {A : Type 0} (found : Option A) → is_some found ≡ true → (x : A) × (found ≡ Some x)
some_of None there = cc
some_of (Some x) there = (x, refl)

-- a subtree is the left or the right half of its parent
pub half_cases : (offset : ℕ) → (offset ≡ 2 * (offset / 2)) ⊎ (offset ≡ 2 * (offset / 2) + 1)
half_cases offset = elim (cases_eq (offset % 2) 1) [ inl right ↦ inr (omega arith) | inr left ↦ inl (omega arith) ]

-- the left half ends within its parent
pub left_ends : (depth offset : ℕ) → end_block_of depth (2 * offset) ≤ end_block_of (suc depth) offset
left_ends depth offset = omega (arith, end-suc depth offset, halves_meet depth offset, end_first depth (2 * offset + 1))

-- so does either
pub half_within : (depth offset n : ℕ) → end_block_of (suc depth) (offset / 2) ≤ n → end_block_of depth offset ≤ n
half_within depth offset n inside = elim (half_cases offset) [
  | inl left ↦ subst (λ (o : ℕ). end_block_of depth o ≤ n) (sym left) (omega (arith, inside, left_ends depth (offset / 2)))
  | inr right ↦ subst (λ (o : ℕ). end_block_of depth o ≤ n) (sym right) (omega (arith, inside, end-suc depth (offset / 2)))
]

-- a held block under a half is under the parent
pub any_under-left : (held : ℕ → Bool) (depth offset : ℕ) → any_under held depth (2 * offset) ≡ true → any_under held (suc depth) offset ≡ true
unfolding any_under
any_under-left held depth offset there = or_left (any_under held depth (2 * offset)) (any_under held depth (2 * offset + 1)) there

pub any_under-right : (held : ℕ → Bool) (depth offset : ℕ) → any_under held depth (2 * offset + 1) ≡ true → any_under held (suc depth) offset ≡ true
unfolding any_under
any_under-right held depth offset there = or_right (any_under held depth (2 * offset)) (any_under held depth (2 * offset + 1)) there

pub any_under-up : (held : ℕ → Bool) (depth offset : ℕ) → any_under held depth offset ≡ true → any_under held (suc depth) (offset / 2) ≡ true
any_under-up held depth offset there = elim (half_cases offset) [
  | inl left ↦ any_under-left held depth (offset / 2) (subst (λ (o : ℕ). any_under held depth o ≡ true) left there)
  | inr right ↦ any_under-right held depth (offset / 2) (subst (λ (o : ℕ). any_under held depth o ≡ true) right there)
]

-- the subtree over a block, one level up
pub over-suc : (index depth : ℕ) → index / 2 ^ depth / 2 ≡ index / 2 ^ suc depth
over-suc index depth = shr-shr index depth 1 ∙ ap (λ (k : ℕ). index / 2 ^ k) (add-one depth)

-- a held block is under each subtree on its way up
pub any_under-held : (held : ℕ → Bool) (index depth : ℕ) → held index ≡ true → any_under held depth (index / 2 ^ depth) ≡ true
unfolding any_under
any_under-held held index zero there =
    let same : index / 2 ^ 0 ≡ index = omega arith in
    ap held same ∙ there
any_under-held held index (suc depth) there =
    let up = any_under-up held depth (index / 2 ^ depth) (any_under-held held index depth there) in
    subst (λ (o : ℕ). any_under held (suc depth) o ≡ true) (over-suc index depth) up

-- a held block under a parent is under one of its halves
pub any_under-halves : (held : ℕ → Bool) (depth offset : ℕ) → any_under held (suc depth) offset ≡ true
    → (any_under held depth (2 * offset) ≡ true) ⊎ (any_under held depth (2 * offset + 1) ≡ true)
unfolding any_under
any_under-halves held depth offset there = or_cases (any_under held depth (2 * offset)) (any_under held depth (2 * offset + 1)) there

-- two stored halves
pub record StoredPair (node : Values) (depth offset : ℕ) : Type 0 where
  pub left : Twig
  pub right : Twig
  pub at_left : node depth (2 * offset) ≡ Some left
  pub at_right : node depth (2 * offset + 1) ≡ Some right

-- one value is there at most
pub some_same : {A : Type 0} (x y : A) → Some x ≡ Some y → x ≡ y
some_same x y same = cc

-- what both halves of a pair have, each of them has
pub half_has : (node : Values) (depth offset : ℕ) (twig : Twig) → node depth offset ≡ Some twig → (pair : StoredPair node depth (offset / 2))
    → (P : ℕ → Twig → Type 0) → P (2 * (offset / 2)) pair.left → P (2 * (offset / 2) + 1) pair.right → P offset twig
half_has node depth offset twig there pair P of_left of_right = elim (half_cases offset) [
  | inl left ↦
      let same = some_same pair.left twig (sym pair.at_left ∙ ap (node depth) (sym left) ∙ there) in
      subst (P offset) same (subst (λ (o : ℕ). P o pair.left) (sym left) of_left)
  | inr right ↦
      let same = some_same pair.right twig (sym pair.at_right ∙ ap (node depth) (sym right) ∙ there) in
      subst (P offset) same (subst (λ (o : ℕ). P o pair.right) (sym right) of_right)
]

-- a pair's parent is stored
pub parent_stored : (node : Values) → PairsAgree node → (depth offset : ℕ) (pair : StoredPair node depth offset)
    → node (suc depth) offset ≡ Some (parent_of pair.left pair.right)
parent_stored node agree depth offset pair =
    let parent = agree depth offset pair.left pair.right pair.at_left pair.at_right in
    subst (λ (d : ℕ). node d offset ≡ Some (parent_of pair.left pair.right)) (add-one depth) parent

module _ (m : Content) (closed : IsClosed m.length m.block m.node) where
  -- a stored node is in the closure
  in_closure_of : (depth offset : ℕ) (twig : Twig) → m.node depth offset ≡ Some twig → in_closure m.length (held m) depth offset ≡ true
  in_closure_of depth offset twig there = sym (closed depth offset) ∙ ap is_some there

  -- a stored node is within the length
  pub stored_within : (depth offset : ℕ) (twig : Twig) → m.node depth offset ≡ Some twig → end_block_of depth offset ≤ m.length
  stored_within depth offset twig there =
      let inner = not (is_within m.length (suc depth) (offset / 2)) || any_under (held m) (suc depth) (offset / 2) in
      leb-true _ _ (and_parts (is_within m.length depth offset) inner (in_closure_of depth offset twig there)).0

  -- so is a stored pair's parent
  pub pair_within : (depth offset : ℕ) → StoredPair m.node depth offset → end_block_of (suc depth) offset ≤ m.length
  pair_within depth offset pair = omega (arith, end-suc depth offset, stored_within depth (2 * offset + 1) pair.right pair.at_right)

  -- a half of a subtree within the length and over a held block is stored
  half_stored : (depth offset : ℕ) → end_block_of (suc depth) (offset / 2) ≤ m.length → any_under (held m) (suc depth) (offset / 2) ≡ true
      → (twig : Twig) × (m.node depth offset ≡ Some twig)
  half_stored depth offset inside some =
      let past = not (is_within m.length (suc depth) (offset / 2)) in
      let under = any_under (held m) (suc depth) (offset / 2) in
      let within = le-leb _ _ (half_within depth offset m.length inside) in
      some_of (m.node depth offset) (closed depth offset ∙ and_from (is_within m.length depth offset) (past || under) within (or_right past under some))

  -- so are both
  pub pair_stored : (depth offset : ℕ) → end_block_of (suc depth) offset ≤ m.length → any_under (held m) (suc depth) offset ≡ true
      → StoredPair m.node depth offset
  pair_stored depth offset inside some =
      let half = λ (place : ℕ) (is : offset ≡ place / 2). half_stored depth place (subst (λ (o : ℕ). end_block_of (suc depth) o ≤ m.length) is inside)
      (subst (λ (o : ℕ). any_under (held m) (suc depth) o ≡ true) is some) in
      let left = half (2 * offset) (omega arith) in
      let right = half (2 * offset + 1) (omega arith) in
      record { left = left.0; right = right.0; at_left = left.1; at_right = right.1 }

  -- a stored node is a full root, or its parent is within the length and over a held block
  pub root_or_below : (depth offset : ℕ) (twig : Twig) → m.node depth offset ≡ Some twig
      → (m.length < end_block_of (suc depth) (offset / 2))
      ⊎ ((end_block_of (suc depth) (offset / 2) ≤ m.length) × (any_under (held m) (suc depth) (offset / 2) ≡ true))
  root_or_below depth offset twig there =
      let above = is_within m.length (suc depth) (offset / 2) in
      let under = any_under (held m) (suc depth) (offset / 2) in
      let either = (and_parts (is_within m.length depth offset) (not above || under) (in_closure_of depth offset twig there)).1 in
      elim (cases_Bool above) [
        | inr past ↦ inl (leb-false _ _ past)
        | inl inside ↦ elim (or_cases (not above) under either) [
          | inl past ↦ inl (leb-false _ _ (not-true above past))
          | inr some ↦ inr (leb-true _ _ inside, some)
        ]
      ]
