-- The subtrees over one, level by level: each contains it, and the first of them end with it.
use Rattle.std.proofs.Common.{◌≡◌, ℕ, zero, suc, ◌+◌, ◌-◌, ◌*◌, ◌/◌, ◌%◌, ◌^◌, ◌<◌, ◌≤◌, List, [], ◌∷◌, ◌++◌, map, sym, ◌∙◌, ap, subst, arith}
use Rattle.std.specs.List.{range_with_len}
use Rattle.std.specs.Int.{w64, trailing_ones}
use Rattle.std.proofs.lemmas.List.FromFn.{map-range_with_len_more}
use Rattle.std.proofs.lemmas.Nat.{shr-shr, mul-le, pow_pos}
use Rattle.std.proofs.lemmas.Nat.Bits.{bit_at-trailing_ones}
use Rattle.flat_tree.specs.Subtrees.{Subtree, subtree, first_block_of, end_block_of}
use Rattle.flat_tree.proofs.NumberLemmas.{first-suc, end-suc, inside_only}

-- the subtree so many levels above one
abbrev pub depth_up : Subtree → ℕ → ℕ
depth_up tree up = tree.depth + up

abbrev pub offset_up : Subtree → ℕ → ℕ
offset_up tree up = tree.offset / 2 ^ up

-- the subtrees up to there
abbrev pub levels : Subtree → ℕ → List Subtree
levels tree count = map (λ up. subtree (depth_up tree up) (offset_up tree up)) (range_with_len 0 count)

pub levels-more : (tree : Subtree) (count : ℕ) → levels tree (count + 1) ≡ levels tree count ++ subtree (depth_up tree count) (offset_up tree count) ∷ []
levels-more tree count = map-range_with_len_more (λ up. subtree (depth_up tree up) (offset_up tree up)) 0 count count (omega arith)

pub offset-half : (tree : Subtree) (up : ℕ) → offset_up tree (up + 1) ≡ offset_up tree up / 2
offset-half tree up = sym (shr-shr tree.offset up 1)

-- an offset is below the end of its blocks
pub offset_below : (depth offset : ℕ) → offset < end_block_of depth offset
unfolding end_block_of
offset_below depth offset = omega (arith, mul-le (offset + 1) 1 (offset + 1) (2 ^ depth) (omega arith) (pow_pos depth))

-- ---- while the offset is odd

module _ (tree : Subtree) (fits : tree.offset + 1 < 2 ^ 64) where
  pub odd_below : (up : ℕ) → up < trailing_ones w64 tree.offset → offset_up tree up ≡ 2 * offset_up tree (up + 1) + 1
  odd_below up below =
      let one : tree.offset / 2 ^ up % 2 ≡ 1 = (bit_at-trailing_ones w64 tree.offset fits).2 up below in
      omega (arith, offset-half tree up, one)

  pub even_top : (up : ℕ) → up ≡ trailing_ones w64 tree.offset → offset_up tree up ≡ 2 * offset_up tree (up + 1)
  even_top up top =
      let none : tree.offset / 2 ^ up % 2 ≡ 0 = subst (λ (u : ℕ). tree.offset / 2 ^ u % 2 ≡ 0) (sym top) (bit_at-trailing_ones w64 tree.offset fits).1 in
      omega (arith, offset-half tree up, none)

  -- the subtree above ends with it
  pub level_end : (up : ℕ) → up ≤ trailing_ones w64 tree.offset → end_block_of (depth_up tree up) (offset_up tree up) ≡ end_block_of tree.depth tree.offset
  level_end zero within =
      let depth : depth_up tree 0 ≡ tree.depth = omega arith in
      let offset : offset_up tree 0 ≡ tree.offset = omega arith in
      ap (λ (d : ℕ). end_block_of d (offset_up tree 0)) depth ∙ ap (end_block_of tree.depth) offset
  level_end (suc up) within =
      let next : suc up ≡ up + 1 = omega arith in
      let one_up : depth_up tree (suc up) ≡ suc (depth_up tree up) = omega arith in
      let half = offset_up tree (up + 1) in
      ap (λ (d : ℕ). end_block_of d (offset_up tree (suc up))) one_up ∙ ap (λ (u : ℕ). end_block_of (suc (depth_up tree up)) (offset_up tree u)) next
      ∙ end-suc (depth_up tree up) half ∙ ap (end_block_of (depth_up tree up)) (sym (odd_below up (omega (arith, within))))
      ∙ level_end up (omega (arith, within))

-- ---- subtrees that have a block in common

-- the blocks of one are some of the other's
pub record IsPart (depth offset high over : ℕ) : Type 0 where
  pub first : first_block_of high over ≤ first_block_of depth offset
  pub last : end_block_of depth offset ≤ end_block_of high over

first_mono : (depth a b : ℕ) → a ≤ b → first_block_of depth a ≤ first_block_of depth b
unfolding first_block_of
first_mono depth a b less = mul-le a (2 ^ depth) b (2 ^ depth) less (omega arith)

end_mono : (depth a b : ℕ) → a ≤ b → end_block_of depth a ≤ end_block_of depth b
unfolding end_block_of
end_mono depth a b less = mul-le (a + 1) (2 ^ depth) (b + 1) (2 ^ depth) (omega (arith, less)) (omega arith)

-- a subtree is part of the one above it
pub IsPart-up : (depth offset : ℕ) → IsPart depth offset (suc depth) (offset / 2)
IsPart-up depth offset = record {
  first = omega (arith, first-suc depth (offset / 2), first_mono depth (2 * (offset / 2)) offset (omega arith));
  last = omega (arith, end-suc depth (offset / 2), end_mono depth offset (2 * (offset / 2) + 1) (omega arith));
}

part_above : (depth offset up : ℕ) → IsPart depth offset (depth + up) (offset / 2 ^ up)
part_above depth offset zero =
    let itself : IsPart depth offset depth offset = record { first = omega arith; last = omega arith } in
    let same_depth : depth ≡ depth + 0 = omega arith in
    let same_offset : offset ≡ offset / 2 ^ 0 = omega arith in
    subst (λ (d : ℕ). IsPart depth offset d (offset / 2 ^ 0)) same_depth (subst (IsPart depth offset depth) same_offset itself)
part_above depth offset (suc up) =
    let so_far = part_above depth offset up in
    let next = IsPart-up (depth + up) (offset / 2 ^ up) in
    let all : IsPart depth offset (suc (depth + up)) (offset / 2 ^ up / 2) = record {
      first = omega (arith, so_far.first, next.first);
      last = omega (arith, so_far.last, next.last);
    } in
    let one_up : suc (depth + up) ≡ depth + suc up = omega arith in
    let half : offset / 2 ^ up / 2 ≡ offset / 2 ^ suc up = sym (offset-half (subtree depth offset) up) ∙ ap (λ (u : ℕ). offset / 2 ^ u) (omega arith) in
    subst (λ (d : ℕ). IsPart depth offset d (offset / 2 ^ suc up)) one_up (subst (IsPart depth offset (suc (depth + up))) half all)

-- of two that have a block in common the lower one is part of the higher one
pub IsPart-meet : (block depth offset high over : ℕ) → depth ≤ high → first_block_of depth offset ≤ block → block < end_block_of depth offset
    → first_block_of high over ≤ block → block < end_block_of high over → IsPart depth offset high over
IsPart-meet block depth offset high over lower first last high_first high_last =
    let up : depth + (high - depth) ≡ high = omega (arith, lower) in
    let is : offset / 2 ^ (high - depth) ≡ over =
    ap (λ (o : ℕ). o / 2 ^ (high - depth)) (sym (inside_only depth offset block first last)) ∙ shr-shr block depth (high - depth)
    ∙ ap (λ (d : ℕ). block / 2 ^ d) up ∙ inside_only high over block high_first high_last in
    subst (λ (d : ℕ). IsPart depth offset d over) up (subst (IsPart depth offset (depth + (high - depth))) is (part_above depth offset (high - depth)))
