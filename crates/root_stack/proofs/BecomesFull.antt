-- Which subtrees become full with those of a tiling.
use Rattle.std.proofs.Common.{◌≡◌, ℕ, zero, suc, ◌+◌, ◌-◌, ◌*◌, ◌/◌, ◌^◌, ◌<◌, ◌≤◌, ◌⊎◌, inl, inr, List, [], ◌∷◌, refl, sym, ◌∙◌, ap, subst, arith}
use Rattle.std.specs.List.{Contains, range_with_len}
use Rattle.std.specs.Int.{w64, trailing_ones}
use Rattle.std.proofs.lemmas.Bool.{cases_lt}
use Rattle.std.proofs.lemmas.List.{length-map}
use Rattle.std.proofs.lemmas.List.Elements.{Contains-append_left, Contains-append_right, Contains-append_cases}
use Rattle.std.proofs.lemmas.List.FromFn.{length-range_with_len, get_or-map-range_with_len}
use Rattle.std.proofs.lemmas.Nat.{pow_pos, shr-shr}
use Rattle.flat_tree.specs.Subtrees.{Subtree, subtree, first_block_of, end_block_of, Tile}
use Rattle.flat_tree.specs.declared.limits.TheConstants.{MAX_BLOCKS}
use Rattle.flat_tree.proofs.NumberLemmas.{end_first, end-suc, halves_meet, inside_only}
use Rattle.flat_tree.proofs.RootLemmas.{tile-le}
use Rattle.root_stack.specs.Made.{ending_with, made_by, IsMade, EndsWithOne}
use Rattle.root_stack.proofs.Levels.{depth_up, offset_up, offset_below, even_top, level_end, IsPart, IsPart-up, IsPart-meet}

-- two subtrees that end with one block have it in common
pub meet_end : (depth offset high over : ℕ) → depth ≤ high → end_block_of depth offset ≡ end_block_of high over → IsPart depth offset high over
meet_end depth offset high over lower ends =
    let low_size = end_first depth offset in
    let high_size = end_first high over in
    let block = end_block_of depth offset - 1 in
    IsPart-meet block depth offset high over lower (omega (arith, low_size, pow_pos depth)) (omega (arith, low_size, pow_pos depth))
    (omega (arith, ends, high_size, pow_pos high)) (omega (arith, ends, high_size, pow_pos high))

-- ---- which subtrees end with one and contain it

module _ (tree : Subtree) (fits : tree.offset + 1 < 2 ^ 64) where
  abbrev top : ℕ
  top = trailing_ones w64 tree.offset

  -- above the last of them a subtree ends further on
  high_enough : (depth offset : ℕ) → tree.depth ≤ depth → end_block_of depth offset ≡ end_block_of tree.depth tree.offset → depth ≤ depth_up tree top
  high_enough depth offset lower ends = elim (cases_lt (depth_up tree top) depth) [
    | inr within ↦ within
    | inl beyond ↦
        let half = offset_up tree (top + 1) in
        let last = ap (end_block_of (depth_up tree top)) (sym (even_top tree fits top refl)) ∙ level_end tree fits top (omega arith) in
        let size = end_first (depth_up tree top) (2 * half) in
        let block = end_block_of tree.depth tree.offset - 1 in
        let up = IsPart-up (depth_up tree top) (2 * half) in
        let is : 2 * half / 2 ≡ half = omega arith in
        let over = subst (IsPart (depth_up tree top) (2 * half) (suc (depth_up tree top))) is up in
        let own = end_first depth offset in
        let some = pow_pos (depth_up tree top) in
        let part =
        IsPart-meet block (suc (depth_up tree top)) half depth offset (omega (arith, beyond)) (omega (arith, over.first, size, last, some))
        (omega (arith, over.last, size, last, some)) (omega (arith, own, ends, pow_pos depth)) (omega (arith, own, ends, pow_pos depth)) in
        let end = end-suc (depth_up tree top) half in
        let right = end_first (depth_up tree top) (2 * half + 1) in
        absurd (omega (arith, part.last, end, right, halves_meet (depth_up tree top) half, last, ends, pow_pos (depth_up tree top)))
  ]

  pub ending_has : (depth offset : ℕ) → tree.depth ≤ depth → end_block_of depth offset ≡ end_block_of tree.depth tree.offset
      → Contains (ending_with tree) (subtree depth offset)
  ending_has depth offset lower ends =
      let up = depth - tree.depth in
      let high = high_enough depth offset lower ends in
      let there : tree.depth + up ≡ depth = omega (arith, lower) in
      let block = end_block_of tree.depth tree.offset - 1 in
      let size = end_first tree.depth tree.offset in
      let own = end_first depth offset in
      let here : block / 2 ^ tree.depth ≡ tree.offset =
      inside_only tree.depth tree.offset block (omega (arith, size, pow_pos tree.depth)) (omega (arith, size, pow_pos tree.depth)) in
      let over : block / 2 ^ depth ≡ offset =
      inside_only depth offset block (omega (arith, own, ends, pow_pos depth)) (omega (arith, own, ends, pow_pos depth)) in
      let place : offset_up tree up ≡ offset =
      ap (λ (o : ℕ). o / 2 ^ up) (sym here) ∙ shr-shr block tree.depth up ∙ ap (λ (d : ℕ). block / 2 ^ d) there ∙ over in
      let level = λ (u : ℕ). subtree (depth_up tree u) (offset_up tree u) in
      let less : up < top + 1 = omega (arith, high, there) in (
        up,
        omega (arith, less, length-map (range_with_len 0 (top + 1)) level, length-range_with_len 0 (top + 1)),
        get_or-map-range_with_len level 0 (top + 1) up up (subtree depth offset) less (omega arith)
            ∙ ap (λ (d : ℕ). subtree d (offset_up tree up)) there ∙ ap (subtree depth) place,
      )

  pub ending_only : (depth offset : ℕ) → Contains (ending_with tree) (subtree depth offset)
      → (tree.depth ≤ depth) × (end_block_of depth offset ≡ end_block_of tree.depth tree.offset)
  ending_only depth offset (up, below, is) =
      let level = λ (u : ℕ). subtree (depth_up tree u) (offset_up tree u) in
      let less : up < top + 1 = omega (arith, below, length-map (range_with_len 0 (top + 1)) level, length-range_with_len 0 (top + 1)) in
      let same : level up ≡ subtree depth offset = sym (get_or-map-range_with_len level 0 (top + 1) up up (subtree depth offset) less (omega arith)) ∙ is in
      subst (λ (t : Subtree). (tree.depth ≤ t.depth) × (end_block_of t.depth t.offset ≡ end_block_of tree.depth tree.offset)) same
      (omega arith, level_end tree fits up (omega (arith, less)))

-- ---- with a tiling

pub end_fits : (tree : Subtree) → end_block_of tree.depth tree.offset ≤ MAX_BLOCKS → tree.offset + 1 < 2 ^ 64
end_fits tree few = omega (arith, few, offset_below tree.depth tree.offset)

contains_first : (tree : Subtree) (trees : List Subtree) → Contains (tree ∷ trees) tree
contains_first tree trees = (0, omega arith, refl)

made_has : (trees : List Subtree) (from to depth offset : ℕ) → Tile trees from to → to ≤ MAX_BLOCKS → EndsWithOne trees depth offset
    → Contains (made_by trees) (subtree depth offset)
made_has trees from to depth offset tile few one = here trees from to tile few one.is_one
  where
    here : (ts : List Subtree) (a b : ℕ) → Tile ts a b → b ≤ MAX_BLOCKS → Contains ts one.tree → Contains (made_by ts) (subtree depth offset)
    here [] a b t few there = absurd (omega (arith, there.1))
    here (tree ∷ ts) a b t few there = elim (Contains-append_cases (tree ∷ []) ts one.tree there) [
      | inl first ↦
          let is : tree ≡ one.tree = is_first first in
          let fits = end_fits tree (omega (arith, tile-le ts _ b t.1, few)) in
          let low : tree.depth ≤ depth = subst (λ (x : Subtree). x.depth ≤ depth) (sym is) one.lower in
          let ends = subst (λ (x : Subtree). end_block_of depth offset ≡ end_block_of x.depth x.offset) (sym is) one.ends in
          Contains-append_left (ending_with tree) (made_by ts) (subtree depth offset) (ending_has tree fits depth offset low ends)
      | inr further ↦ Contains-append_right (ending_with tree) (made_by ts) (subtree depth offset) (here ts _ b t.1 few further)
    ]
      where
        is_first : Contains (tree ∷ []) one.tree → tree ≡ one.tree
        is_first (zero, below, is) = is
        is_first (suc i, below, is) = absurd (omega (arith, below))

made_only : (trees : List Subtree) (from to depth offset : ℕ) → Tile trees from to → to ≤ MAX_BLOCKS → Contains (made_by trees) (subtree depth offset)
    → EndsWithOne trees depth offset
made_only [] from to depth offset tile few there = absurd (omega (arith, there.1))
made_only (tree ∷ trees) from to depth offset tile few there = elim (Contains-append_cases (ending_with tree) (made_by trees) (subtree depth offset) there) [
  | inl here ↦
      let one = ending_only tree (end_fits tree (omega (arith, tile-le trees _ to tile.1, few))) depth offset here in
      record { tree = tree; is_one = contains_first tree trees; lower = one.0; ends = one.1 }
  | inr further ↦
      let one = made_only trees _ to depth offset tile.1 few further in
      record { tree = one.tree; is_one = Contains-append_right (tree ∷ []) trees one.tree one.is_one; lower = one.lower; ends = one.ends }
]

pub made-exact : (trees : List Subtree) (from to depth offset : ℕ) → Tile trees from to → to ≤ MAX_BLOCKS
    → (Contains (made_by trees) (subtree depth offset) → EndsWithOne trees depth offset)
    × (EndsWithOne trees depth offset → Contains (made_by trees) (subtree depth offset))
made-exact trees from to depth offset tile few = (made_only trees from to depth offset tile few, made_has trees from to depth offset tile few)

-- the tree that has the subtree's last block ends with it, where no tree has the subtree over it
one_ends : (trees : List Subtree) (start from to depth offset : ℕ) → Tile trees from to → start ≤ from → from < end_block_of depth offset
    → end_block_of depth offset ≤ to → (first_block_of (suc depth) (offset / 2) < start) ⊎ (to < end_block_of (suc depth) (offset / 2))
    → EndsWithOne trees depth offset
one_ends [] start from to depth offset tile behind past within over = absurd (omega (arith, tile, past, within))
one_ends (tree ∷ trees) start from to depth offset tile behind past within over =
    let size = end_first tree.depth tree.offset in
    let own = end_first depth offset in
    elim (cases_lt (end_block_of tree.depth tree.offset) (end_block_of depth offset)) [
      | inl further ↦
          let one = one_ends trees start _ to depth offset tile.1 (omega (arith, behind, tile.0, size)) further within over in
          record { tree = one.tree; is_one = Contains-append_right (tree ∷ []) trees one.tree one.is_one; lower = one.lower; ends = one.ends }
      | inr here ↦
          let block = end_block_of depth offset - 1 in
          let first : first_block_of depth offset ≤ block = omega (arith, own, pow_pos depth) in
          let last : block < end_block_of depth offset = omega (arith, own, pow_pos depth) in
          let tree_first : first_block_of tree.depth tree.offset ≤ block = omega (arith, tile.0, past) in
          let tree_last : block < end_block_of tree.depth tree.offset = omega (arith, last, here) in
          elim (cases_lt depth tree.depth) [
            | inr lower ↦
                let part = IsPart-meet block tree.depth tree.offset depth offset lower tree_first tree_last first last in
                record { tree = tree; is_one = contains_first tree trees; lower = lower; ends = omega (arith, part.last, here) }
            | inl higher ↦
                let up = IsPart-up depth offset in
                let part =
                IsPart-meet block (suc depth) (offset / 2) tree.depth tree.offset (omega (arith, higher)) (omega (arith, up.first, first))
                (omega (arith, up.last, last)) tree_first tree_last in
                absurd (nowhere over part (tile-le trees _ to tile.1))
          ]
    ]
  where
    nowhere : (first_block_of (suc depth) (offset / 2) < start) ⊎ (to < end_block_of (suc depth) (offset / 2))
        → IsPart (suc depth) (offset / 2) tree.depth tree.offset → end_block_of tree.depth tree.offset ≤ to → ⊥
    nowhere (inl before) part ends = omega (arith, before, part.first, tile.0, behind)
    nowhere (inr after) part ends = omega (arith, after, part.last, ends)

pub made-tiling : (trees : List Subtree) (from to depth offset : ℕ) → Tile trees from to → to ≤ MAX_BLOCKS → IsMade from to depth offset
    → Contains (made_by trees) (subtree depth offset)
made-tiling trees from to depth offset tile few is =
    made_has trees from to depth offset tile few (one_ends trees from from to depth offset tile (omega arith) is.past is.within is.over)
