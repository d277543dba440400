-- With a cover only subtrees become full over which none is within the range.
use Rattle.std.proofs.Common.{◌≡◌, ℕ, zero, suc, ◌+◌, ◌-◌, ◌/◌, ◌%◌, ◌^◌, ◌<◌, ◌≤◌, inl, inr, List, sym, ◌∙◌, ap, subst, arith}
use Rattle.std.specs.List.{Contains}
use Rattle.std.proofs.lemmas.Bool.{cases_lt}
use Rattle.std.proofs.lemmas.List.Elements.{Contains-append_cases}
use Rattle.std.proofs.lemmas.Nat.{pow_pos}
use Rattle.std.proofs.Math.Nat.{mul-mod_left}
use Rattle.flat_tree.specs.Subtrees.{Subtree, subtree, first_block_of, end_block_of, Tile}
use Rattle.flat_tree.specs.Covers.{depth_at, cover_of}
use Rattle.flat_tree.specs.declared.limits.TheConstants.{MAX_BLOCKS}
use Rattle.flat_tree.proofs.NumberLemmas.{end_first}
use Rattle.flat_tree.proofs.CoverLemmas.{IsLargest, largest-is, cover-some, cover-none, tile-cover}
use Rattle.root_stack.specs.Made.{ending_with, made_by, IsMade}
use Rattle.root_stack.proofs.Levels.{IsPart, IsPart-up, IsPart-meet}
use Rattle.root_stack.proofs.BecomesFull.{ending_only, end_fits, meet_end}

-- no subtree within the range reaches over this place
abbrev IsSeam : ℕ → ℕ → ℕ → Type 0
IsSeam from to at = (depth offset : ℕ) → from ≤ first_block_of depth offset → end_block_of depth offset ≤ to
    → first_block_of depth offset < at → at < end_block_of depth offset → ⊥

begins : (depth offset at : ℕ) → first_block_of depth offset ≡ at → at % 2 ^ depth ≡ 0
unfolding first_block_of
begins depth offset at is = ap (λ (n : ℕ). n % 2 ^ depth) (sym is) ∙ mul-mod_left offset (2 ^ depth)

-- the largest subtree that begins there and fits
module _ (from to at depth : ℕ) (seam : IsSeam from to at) (largest : IsLargest depth at to) where
  abbrev tree : Subtree
  tree = subtree depth (at / 2 ^ depth)

  begins_there : first_block_of tree.depth tree.offset ≡ at
  begins_there =
      (subst (λ (ts : List Subtree). Tile ts at to) (cover-some depth at to largest) (tile-cover at to (omega (arith, largest.ends)))).0

  pub ends_there : end_block_of tree.depth tree.offset ≡ at + 2 ^ depth
  ends_there = omega (arith, end_first tree.depth tree.offset, begins_there)

  -- no larger one within the range has it as a part
  pub none_larger : (high over : ℕ) → depth < high → from ≤ first_block_of high over → end_block_of high over ≤ to
      → IsPart tree.depth tree.offset high over → ⊥
  none_larger high over more first last part =
      let size = end_first tree.depth tree.offset in
      let reach : at < end_block_of high over = omega (arith, part.last, size, begins_there, pow_pos depth) in
      elim (cases_lt (first_block_of high over) at) [
        | inl before ↦ seam high over first last before reach
        | inr not_before ↦
            let up = IsPart-up depth (at / 2 ^ depth) in
            let next =
            IsPart-meet at (suc depth) (at / 2 ^ depth / 2) high over (omega (arith, more)) (omega (arith, up.first, begins_there))
            (omega (arith, up.last, size, begins_there, pow_pos depth)) (omega (arith, part.first, begins_there)) reach in
            let same : first_block_of (suc depth) (at / 2 ^ depth / 2) ≡ at = omega (arith, up.first, begins_there, next.first, not_before) in
            let short = largest.next (begins (suc depth) (at / 2 ^ depth / 2) at same) in
            omega (arith, short, end_first (suc depth) (at / 2 ^ depth / 2), same, next.last, last)
      ]

  -- behind it is such a place again
  pub seam-next : IsSeam from to (at + 2 ^ depth)
  seam-next high over first last before after =
      let size = end_first tree.depth tree.offset in
      let block = at + 2 ^ depth - 1 in
      let here : first_block_of tree.depth tree.offset ≤ block = omega (arith, begins_there, pow_pos depth) in
      let inside : block < end_block_of tree.depth tree.offset = omega (arith, ends_there, pow_pos depth) in
      elim (cases_lt depth high) [
        | inl more ↦
            none_larger high over more first last
            (IsPart-meet block tree.depth tree.offset high over (omega (arith, more)) here inside (omega (arith, before)) (omega (arith, after)))
        | inr lower ↦
            let part = IsPart-meet block high over tree.depth tree.offset lower (omega (arith, before)) (omega (arith, after)) here inside in
            omega (arith, part.last, ends_there, after)
      ]

  -- what ends with it is over none within the range
  pub made-here : (high over : ℕ) → from ≤ at → to ≤ MAX_BLOCKS → Contains (ending_with tree) (subtree high over) → IsMade from to high over
  made-here high over behind few there =
      let one = ending_only tree (end_fits tree (omega (arith, ends_there, largest.ends, few))) high over there in
      let part = meet_end depth (at / 2 ^ depth) high over one.0 (sym one.1) in
      let up = IsPart-up high over in
      let all : IsPart tree.depth tree.offset (suc high) (over / 2) = record {
        first = omega (arith, part.first, up.first);
        last = omega (arith, part.last, up.last);
      } in
      let more : depth < suc high = omega (arith, one.0) in
      record {
        past = omega (arith, one.1, ends_there, behind, pow_pos depth);
        within = omega (arith, one.1, ends_there, largest.ends);
        over = elim (cases_lt (first_block_of (suc high) (over / 2)) from) [
          | inl before ↦ inl before
          | inr first ↦ elim (cases_lt to (end_block_of (suc high) (over / 2))) [
            | inl after ↦ inr after
            | inr last ↦ absurd (none_larger (suc high) (over / 2) more first last all)
          ]
        ];
      }

nothing_made : (from to at depth offset : ℕ) → to ≤ at → Contains (made_by (cover_of at to)) (subtree depth offset) → IsMade from to depth offset
nothing_made from to at depth offset none there =
    let nothing = subst (λ (ts : List Subtree). Contains (made_by ts) (subtree depth offset)) (cover-none at to none) there in
    absurd (omega (arith, nothing.1))

made_in : (steps from to at depth offset : ℕ) → to - at ≤ steps → from ≤ at → to ≤ MAX_BLOCKS → IsSeam from to at
    → Contains (made_by (cover_of at to)) (subtree depth offset) → IsMade from to depth offset
made_in zero from to at depth offset enough behind few seam there = nothing_made from to at depth offset (omega (arith, enough)) there
made_in (suc steps) from to at depth offset enough behind few seam there = elim (cases_lt at to) [
  | inr none ↦ nothing_made from to at depth offset none there
  | inl some ↦
      let d = depth_at at to in
      let largest = largest-is at to some in
      let split = subst (λ (ts : List Subtree). Contains (made_by ts) (subtree depth offset)) (cover-some d at to largest) there in
      elim (Contains-append_cases (ending_with (subtree d (at / 2 ^ d))) (made_by (cover_of (at + 2 ^ d) to)) (subtree depth offset) split) [
        | inl here ↦ made-here from to at d seam largest depth offset behind few here
        | inr further ↦
            let next = seam-next from to at d seam largest in
            made_in steps from to (at + 2 ^ d) depth offset (omega (arith, enough, some, pow_pos d)) (omega (arith, behind)) few next further
      ]
]

pub made-cover : (from to depth offset : ℕ) → to ≤ MAX_BLOCKS → Contains (made_by (cover_of from to)) (subtree depth offset) → IsMade from to depth offset
made-cover from to depth offset few there =
    made_in (to - from) from to from depth offset (omega arith) (omega arith) few (λ high over first last before after. omega (arith, first, before)) there
