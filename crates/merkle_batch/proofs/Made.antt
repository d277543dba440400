-- The subtrees that become full with some blocks.
use Rattle.std.proofs.Common.{◌≡◌, ℕ, zero, suc, ◌+◌, ◌*◌, ◌/◌, ◌%◌, ◌^◌, ◌<◌, ◌≤◌, inl, inr, List, [], ◌∷◌, ◌++◌, refl, sym, ◌∙◌, ap, subst, arith, add-one}
use Rattle.std.specs.List.{flat_map, range_with_len, Contains}
use Rattle.std.specs.Int.{w64, trailing_ones}
use Rattle.std.proofs.Math.Nat.{pow-succ', mul-mod_left}
use Rattle.std.proofs.lemmas.Bool.{cases_lt}
use Rattle.std.proofs.lemmas.List.{length-map, flat_map_more}
use Rattle.std.proofs.lemmas.List.Elements.{Contains-append_left, Contains-append_right}
use Rattle.std.proofs.lemmas.List.FromFn.{length-range_with_len, get_or-map-range_with_len}
use Rattle.std.proofs.lemmas.Nat.{pow_pos, mod_low}
use Rattle.flat_tree.specs.Subtrees.{Subtree, subtree, first_block_of, end_block_of}
use Rattle.flat_tree.specs.declared.limits.TheConstants.{MAX_BLOCKS}
use Rattle.flat_tree.proofs.NumberLemmas.{end_first, inside_only}
use Rattle.flat_tree.proofs.RootLemmas.{start-zero}
use Rattle.merkle_nodes.proofs.JoinedValues.{EndBy, EndBy-append, EndBy-higher}
use Rattle.merkle_batch.specs.Batch.{ending_with, made_with}
use Rattle.merkle_batch.proofs.FullRoots.{begins_lower}
use Rattle.merkle_batch.proofs.Levels.{levels, levels-more, ends_up, zero_top}

range-suc : (from count : ℕ) → range_with_len from (suc count) ≡ range_with_len from count ++ (from + count) ∷ []
range-suc from zero = ap (λ (n : ℕ). n ∷ []) (omega arith)
range-suc from (suc count) =
    let next : from + 1 + count ≡ from + suc count = omega arith in
    ap (λ (ns : List ℕ). from ∷ ns) (range-suc (from + 1) count ∙ ap (λ (n : ℕ). range_with_len (from + 1) count ++ n ∷ []) next)

-- one block more
pub made_with-suc : (from count : ℕ) → made_with from (suc count) ≡ made_with from count ++ ending_with (from + count)
made_with-suc from count = ap (flat_map ending_with) (range-suc from count) ∙ sym (flat_map_more ending_with [] (range_with_len from count) (from + count))

-- ---- where they end

-- a block's subtrees end with it
levels_end : (block count : ℕ) → block < MAX_BLOCKS → count ≤ trailing_ones w64 block + 1 → EndBy (block + 1) (levels block count)
unfolding first_block_of
levels_end block zero few within = tt
levels_end block (suc count) few within =
    let tree = subtree count (block / 2 ^ count) in
    let more : levels block (suc count) ≡ levels block count ++ tree ∷ [] = ap (levels block) (sym (add-one count)) ∙ levels-more block count in
    let ends = ends_up block count few (omega (arith, within)) in
    let last : end_block_of count (block / 2 ^ count) ≤ block + 1 = omega (arith, end_first count (block / 2 ^ count), ends) in
    let lower = levels_end block count few (omega (arith, within)) in
    subst (EndBy (block + 1)) (sym more) (EndBy-append (block + 1) (levels block count) (tree ∷ []) lower (last, tt))

-- those of so many blocks end by the last of them
pub made_with-end : (from count : ℕ) → from + count ≤ MAX_BLOCKS → EndBy (from + count) (made_with from count)
made_with-end from zero few = tt
made_with-end from (suc count) few =
    let block = from + count in
    let next : block + 1 ≡ from + suc count = omega arith in
    let before = EndBy-higher block (from + suc count) (made_with from count) (omega arith) (made_with-end from count (omega (arith, few))) in
    let last = levels_end block (trailing_ones w64 block + 1) (omega (arith, few)) (omega arith) in
    let all = EndBy-append (from + suc count) (made_with from count) (ending_with block) before (subst (λ (n : ℕ). EndBy n (ending_with block)) next last) in
    subst (EndBy (from + suc count)) (sym (made_with-suc from count)) all

-- ---- which there are

-- a subtree that ends with a block has its depth among the ones that the block's number ends in
deep_enough : (block depth offset : ℕ) → block < MAX_BLOCKS → end_block_of depth offset ≡ block + 1 → depth ≤ trailing_ones w64 block
unfolding end_block_of
deep_enough block depth offset few ends = elim (cases_lt (trailing_ones w64 block) depth) [
  | inr fits ↦ fits
  | inl short ↦
      let top = trailing_ones w64 block in
      let place = block / 2 ^ suc top in
      let aligned : (block + 1) % 2 ^ depth ≡ 0 = ap (λ (n : ℕ). n % 2 ^ depth) (sym ends) ∙ mul-mod_left (offset + 1) (2 ^ depth) in
      let none = begins_lower (block + 1) (suc top) depth (omega (arith, short)) aligned in
      let one_more : block + 1 ≡ place * 2 ^ suc top + 2 ^ top = omega (arith, ends_up block top few (omega arith), start-zero top block (zero_top block top few refl)) in
      let low = mod_low place (suc top) (2 ^ top) (omega (arith, pow-succ' 2 top, pow_pos top)) in
      let rest : (block + 1) % 2 ^ suc top ≡ 2 ^ top = ap (λ (n : ℕ). n % 2 ^ suc top) one_more ∙ low in
      absurd (omega (arith, none, rest, pow_pos top))
]

ending_has : (block depth offset : ℕ) → block < MAX_BLOCKS → end_block_of depth offset ≡ block + 1 → Contains (ending_with block) (subtree depth offset)
ending_has block depth offset few ends =
    let after : first_block_of depth offset ≤ block = omega (arith, ends, end_first depth offset, pow_pos depth) in
    let is : block / 2 ^ depth ≡ offset = inside_only depth offset block after (omega (arith, ends)) in
    let deep = deep_enough block depth offset few ends in
    let tree_at = λ (d : ℕ). subtree d (block / 2 ^ d) in
    let count = trailing_ones w64 block + 1 in (
      depth,
      omega (arith, deep, length-map (range_with_len 0 count) tree_at, length-range_with_len 0 count),
      get_or-map-range_with_len tree_at 0 count depth depth (subtree depth offset) (omega (arith, deep)) (omega arith) ∙ ap (subtree depth) is,
    )

-- every subtree that ends with one of the blocks
pub made_with-has : (from count depth offset : ℕ) → from + count ≤ MAX_BLOCKS → from < end_block_of depth offset → end_block_of depth offset ≤ from + count
    → Contains (made_with from count) (subtree depth offset)
made_with-has from zero depth offset few after within = absurd (omega (arith, after, within))
made_with-has from (suc count) depth offset few after within =
    let tree = subtree depth offset in
    let block = from + count in
    subst (λ (trees : List Subtree). Contains trees tree) (sym (made_with-suc from count)) (elim (cases_lt block (end_block_of depth offset)) [
      | inr before ↦ Contains-append_left (made_with from count) (ending_with block) tree (made_with-has from count depth offset (omega (arith, few)) after before)
      | inl last ↦
          let ends : end_block_of depth offset ≡ block + 1 = omega (arith, last, within) in
          Contains-append_right (made_with from count) (ending_with block) tree (ending_has block depth offset (omega (arith, few)) ends)
    ])
