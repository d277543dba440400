-- The levels between a block and the highest subtree that ends with it: one for each one bit that its number ends in.
use Rattle.std.proofs.Common.{◌≡◌, ℕ, zero, suc, ◌+◌, ◌-◌, ◌*◌, ◌/◌, ◌%◌, ◌^◌, ◌<◌, ◌≤◌, List, [], ◌∷◌, ◌++◌, map, sym, ◌∙◌, ap, subst, arith, add-one}
use Rattle.std.specs.List.{range_with_len}
use Rattle.std.specs.Int.{w64, trailing_ones}
use Rattle.std.proofs.Math.Nat.{pow-succ'}
use Rattle.std.proofs.lemmas.List.FromFn.{map-range_with_len_more}
use Rattle.std.proofs.lemmas.Nat.{shr-shr}
use Rattle.std.proofs.lemmas.Nat.Bits.{bit_at-trailing_ones}
use Rattle.flat_tree.specs.Subtrees.{Subtree, subtree}
use Rattle.flat_tree.specs.Roots.{full_roots_of}
use Rattle.flat_tree.specs.declared.limits.TheConstants.{MAX_BLOCKS}
use Rattle.flat_tree.proofs.RootLemmas.{start_of, start-one}
use Rattle.merkle_batch.proofs.FullRoots.{full-one}

-- the digits that a block's number ends in
pub one_below : (block depth : ℕ) → block < MAX_BLOCKS → depth < trailing_ones w64 block → block / 2 ^ depth % 2 ≡ 1
one_below block depth few below = (bit_at-trailing_ones w64 block (omega (arith, few))).2 depth below

-- and the one above them
pub zero_top : (block depth : ℕ) → block < MAX_BLOCKS → depth ≡ trailing_ones w64 block → block / 2 ^ depth % 2 ≡ 0
zero_top block depth few top =
    subst (λ (d : ℕ). block / 2 ^ d % 2 ≡ 0) (sym top) (bit_at-trailing_ones w64 block (omega (arith, few))).1

-- so many levels up the subtree still ends with the block
pub ends_up : (block depth : ℕ) → block < MAX_BLOCKS → depth ≤ trailing_ones w64 block → start_of depth block + 2 ^ depth ≡ block + 1
ends_up block zero few below = omega arith
ends_up block (suc depth) few below =
    let one = one_below block depth few (omega (arith, below)) in
    omega (arith, ends_up block depth few (omega (arith, below)), start-one depth block one, pow-succ' 2 depth)

-- the subtrees that end with a block, so many levels up
abbrev pub levels : ℕ → ℕ → List Subtree
levels block count = map (λ depth. subtree depth (block / 2 ^ depth)) (range_with_len 0 count)

pub levels-more : (block count : ℕ) → levels block (count + 1) ≡ levels block count ++ subtree count (block / 2 ^ count) ∷ []
levels-more block count = map-range_with_len_more (λ d. subtree d (block / 2 ^ d)) 0 count count (omega arith)

-- the roots that aren't joined yet above a level, and the half before the next node
abbrev pub higher_roots : ℕ → ℕ → List Subtree
higher_roots block depth = full_roots_of (start_of (depth + 1) block)

abbrev pub half_before : ℕ → ℕ → Subtree
half_before block depth = subtree depth (2 * (block / 2 ^ (depth + 1)))

-- ---- one level with a one

module _ (block depth : ℕ) (one : block / 2 ^ depth % 2 ≡ 1) where
  half : block / 2 ^ (depth + 1) ≡ block / 2 ^ depth / 2
  half = sym (shr-shr block depth 1)

  -- the offset of the half before, and of the one that ends with the block
  pub left_offset : block / 2 ^ depth - 1 ≡ 2 * (block / 2 ^ (depth + 1))
  left_offset = omega (arith, half, one)

  pub right_offset : block / 2 ^ depth ≡ 2 * (block / 2 ^ (depth + 1)) + 1
  right_offset = omega (arith, half, one)

  -- the half before is the last root
  pub last_root : full_roots_of (start_of depth block) ≡ higher_roots block depth ++ half_before block depth ∷ []
  last_root =
      let P : ℕ → Type 0 = λ (up : ℕ). full_roots_of (start_of depth block) ≡ full_roots_of (start_of up block) ++ subtree depth (block / 2 ^ depth - 1) ∷ [] in
      subst P (sym (add-one depth)) (full-one depth block one)
      ∙ ap (λ (o : ℕ). full_roots_of (start_of (depth + 1) block) ++ subtree depth o ∷ []) left_offset
