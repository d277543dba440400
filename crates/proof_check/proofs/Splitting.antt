-- Full roots and covers, cut at one of their subtrees.
use Rattle.std.proofs.Common.{◌≡◌, ℕ, zero, suc, ◌+◌, ◌-◌, ◌*◌, ◌/◌, ◌%◌, ◌^◌, ◌<◌, ◌≤◌, List, [], ◌∷◌, ◌++◌, length, slice_get, Some, refl, sym, ap, subst, ◌∙◌, arith}
use Rattle.std.proofs.Math.Nat.{mul-mod_left, mul-div_cancel}
use Rattle.std.proofs.lemmas.List.{length-append}
use Rattle.std.proofs.lemmas.Nat.{pow_pos, shr_split}
use Rattle.flat_tree.specs.Subtrees.{Subtree, subtree, first_block_of, end_block_of, Tile}
use Rattle.flat_tree.specs.Roots.{full_roots_of, place_over, depth_over}
use Rattle.flat_tree.specs.Covers.{cover_of}
use Rattle.flat_tree.proofs.NumberLemmas.{end_first, first-suc, end-suc, inside_of, inside_only}
use Rattle.flat_tree.proofs.RootLemmas.{tile-full, tile-le, same_offset}
use Rattle.flat_tree.proofs.OverLemmas.{IsOver, over-full, root-over}
use Rattle.flat_tree.proofs.CoverLemmas.{IsLargest, cover-some, cover-none, cover-full, tile-cover, best-cover}
use Rattle.node_set.proofs.CoverLemmas.{tile-append}

-- a tiling before and behind one of its subtrees
record IsCut (trees : List Subtree) (from to : ℕ) (tree : Subtree) : Type 0 where
  pub front : List Subtree
  pub back : List Subtree
  pub whole : trees ≡ front ++ tree ∷ back
  pub before : Tile front from (first_block_of tree.depth tree.offset)
  pub behind : Tile back (end_block_of tree.depth tree.offset) to

cut_at : (trees : List Subtree) (from to place : ℕ) (tree : Subtree) → Tile trees from to → slice_get trees place ≡ Some tree → IsCut trees from to tree
cut_at [] from to place tree tile there = cc
cut_at (own ∷ trees) from to zero tree tile there =
    let same : own ≡ tree = cc in
    record {
      front = [];
      back = trees;
      whole = ap (λ (t : Subtree). t ∷ trees) same;
      before = sym tile.0 ∙ ap (λ (t : Subtree). first_block_of t.depth t.offset) same;
      behind = subst (λ (t : Subtree). Tile trees (end_block_of t.depth t.offset) to) same tile.1;
    }
cut_at (own ∷ trees) from to (suc place) tree tile there =
    let rest = cut_at trees _ to place tree tile.1 there in
    record {
      front = own ∷ rest.front;
      back = rest.back;
      whole = ap (λ (ts : List Subtree). own ∷ ts) rest.whole;
      before = (tile.0, rest.before);
      behind = rest.behind;
    }

-- the full roots are those before one of them, it, and the cover of what is behind it
pub split_roots : (to place d o : ℕ) → slice_get (full_roots_of to) place ≡ Some (subtree d o)
    → (full_roots_of to ≡ full_roots_of (first_block_of d o) ++ subtree d o ∷ cover_of (end_block_of d o) to) × (end_block_of d o ≤ to)
split_roots to place d o there =
    let tree = subtree d o in
    let cut = cut_at (full_roots_of to) 0 to place tree (tile-full to) there in
    let end = end_block_of d o in
    let within : end ≤ to = tile-le cut.back end to cut.behind in
    let front = full_roots_of (first_block_of d o) in
    let back = cover_of end to in
    let tile : Tile (front ++ tree ∷ back) 0 to =
    tile-append front (tree ∷ back) 0 (first_block_of d o) to (tile-full (first_block_of d o)) (refl, tile-cover end to within) in
    let few_front = (best-cover 0 (first_block_of d o) cut.front cut.before).0 in
    let few_back = (best-cover end to cut.back cut.behind).0 in
    let all = ap length cut.whole in
    let short : length (front ++ tree ∷ back) ≤ length (cover_of 0 to) =
    omega (
      arith,
      few_front,
      few_back,
      all,
      ap length (cover-full to),
      ap length (cover-full (first_block_of d o)),
      length-append front (tree ∷ back),
      length-append cut.front (tree ∷ cut.back),
    ) in
    (sym (cover-full to) ∙ sym ((best-cover 0 to (front ++ tree ∷ back) tile).1 short), within)

-- the last full root
pub last_root : (base : ℕ) → 0 < base → (d o : ℕ) → d ≡ depth_over base (base - 1) → o ≡ (base - 1) / 2 ^ d
    → (full_roots_of base ≡ full_roots_of (first_block_of d o) ++ subtree d o ∷ []) × (end_block_of d o ≡ base)
last_root base some d o depth place =
    let there : slice_get (full_roots_of base) (place_over base (base - 1)) ≡ Some (subtree d o) =
    root-over base (base - 1) (omega (arith, some))
    ∙ ap (λ (k : ℕ). Some (subtree k ((base - 1) / 2 ^ k))) (sym depth)
    ∙ ap (λ (k : ℕ). Some (subtree d k)) (sym place) in
    let split = split_roots base (place_over base (base - 1)) d o there in
    let inside = inside_of d (base - 1) in
    let same : end_block_of d ((base - 1) / 2 ^ d) ≡ end_block_of d o = ap (end_block_of d) (sym place) in
    let end : end_block_of d o ≡ base = omega (arith, inside, split.1, same, some) in
    let none : cover_of (end_block_of d o) base ≡ [] = cover-none (end_block_of d o) base (omega (arith, end)) in
    (split.0 ∙ ap (λ (ts : List Subtree). full_roots_of (first_block_of d o) ++ subtree d o ∷ ts) none, end)

-- a subtree ends where the next one begins
pub next_first : (d o : ℕ) → end_block_of d o ≡ first_block_of d (o + 1)
unfolding first_block_of end_block_of
next_first d o = refl

-- where a subtree begins, in its row
pub row_of : (d o : ℕ) → first_block_of d o / 2 ^ d ≡ o
unfolding first_block_of
row_of d o = mul-div_cancel o (pow_pos d)

begins_row : (d o : ℕ) → first_block_of d o % 2 ^ d ≡ 0
unfolding first_block_of
begins_row d o = mul-mod_left o (2 ^ d)

-- what begins a larger subtree begins an even one
even_row : (d o : ℕ) → first_block_of d o % 2 ^ suc d ≡ 0 → o ≡ 2 * (first_block_of d o / 2 ^ suc d)
unfolding first_block_of
even_row d o begins =
    let q = first_block_of d o / 2 ^ suc d in
    let whole : first_block_of (suc d) q ≡ first_block_of d o = omega (arith, shr_split (first_block_of d o) (suc d), begins) in
    same_offset d o (2 * q) (sym whole ∙ first-suc d q)

-- before a right half the last full root is the left one
pub left_root : (d o : ℕ) → o % 2 ≡ 1 → full_roots_of (first_block_of d o) ≡ full_roots_of (first_block_of d (o - 1)) ++ subtree d (o - 1) ∷ []
left_root d o odd =
    let n = first_block_of d o in
    let before : end_block_of d (o - 1) ≡ n = next_first d (o - 1) ∙ ap (first_block_of d) (omega (arith, odd)) in
    let first : first_block_of d (o - 1) + 2 ^ d ≡ n = omega (arith, end_first d (o - 1), before) in
    let place : (n - 1) / 2 ^ d ≡ o - 1 = inside_only d (o - 1) (n - 1) (omega (arith, first, pow_pos d)) (omega (arith, before, first, pow_pos d)) in
    let over : IsOver n (n - 1) d = record { one = ap (λ (k : ℕ). k % 2) (row_of d o) ∙ odd; next = omega (arith, place, row_of d o, odd) } in
    (last_root n (omega (arith, first, pow_pos d)) d (o - 1) (sym (over-full n (n - 1) d over).depth_is) (sym place)).0

-- behind a left half the cover begins with the right one
pub right_cover : (d o to : ℕ) → o % 2 ≡ 0 → end_block_of (suc d) (o / 2) ≤ to
    → cover_of (end_block_of d o) to ≡ subtree d (o + 1) ∷ cover_of (end_block_of (suc d) (o / 2)) to
right_cover d o to even within =
    let n = first_block_of d (o + 1) in
    let up : end_block_of (suc d) (o / 2) ≡ end_block_of d (o + 1) = end-suc d (o / 2) ∙ ap (end_block_of d) (omega (arith, even)) in
    let end : n + 2 ^ d ≡ end_block_of (suc d) (o / 2) = omega (arith, up, end_first d (o + 1)) in
    let largest : IsLargest d n to = record {
      begins = begins_row d (o + 1);
      ends = omega (arith, end, within);
      next = λ begins. absurd (omega (arith, even_row d (o + 1) begins, even));
    } in
    ap (λ (k : ℕ). cover_of k to) (next_first d o)
    ∙ cover-some d n to largest
    ∙ ap (λ (k : ℕ). subtree d k ∷ cover_of (n + 2 ^ d) to) (row_of d (o + 1))
    ∙ ap (λ (k : ℕ). subtree d (o + 1) ∷ cover_of k to) end
