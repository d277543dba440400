-- The numbers of the nodes that blocks make: each once, and how many there are.
use Rattle.std.proofs.Common.{◌≡◌, ℕ, zero, suc, ◌+◌, ◌-◌, ◌*◌, ◌/◌, ◌^◌, ◌<◌, ◌≤◌, inl, inr, List, [], ◌∷◌, ◌++◌, length, nat_eq, if◌then◌else◌, refl, sym, ap, subst, ◌∙◌, arith, add-one, length-append}
use Rattle.std.specs.Prelude.{sum_by}
use Rattle.std.specs.List.{AllByRecursion}
use Rattle.std.specs.Int.{w64, trailing_ones}
use Rattle.std.proofs.lemmas.Bool.{cases_eq, eq-eqb, ne_eqb}
use Rattle.std.proofs.lemmas.List.{map-append, length_push}
use Rattle.std.proofs.lemmas.List.Sums.{sum_by-append, sum_by-cons}
use Rattle.flat_tree.specs.Subtrees.{Subtree, subtree, number, numbers_of, first_block_of, end_block_of}
use Rattle.flat_tree.specs.Roots.{full_roots_of}
use Rattle.flat_tree.specs.declared.limits.TheConstants.{MAX_BLOCKS}
use Rattle.flat_tree.proofs.NumberLemmas.{end_first, same_depth, same_place, some_number}
use Rattle.flat_tree.proofs.RootLemmas.{start_of}
use Rattle.node_set.proofs.AppendLemmas.{all_push, all_so}
use Rattle.merkle_batch.specs.Batch.{ending_with, made_with}
use Rattle.merkle_batch.proofs.FullRoots.{full-one, full-zero}
use Rattle.merkle_batch.proofs.Levels.{one_below, zero_top, ends_up, levels, levels-more}
use Rattle.merkle_batch.proofs.Made.{made_with-suc, made_with-end}

-- 1 for a number, and 0 for another
abbrev pub one_if : ℕ → ℕ → ℕ
one_if k n = if nat_eq n k then 1 else 0

pub one_same : (k n : ℕ) → n ≡ k → one_if k n ≡ 1
one_same k n same = rw (eq-eqb n k same) refl

pub one_other : (k n : ℕ) → (n ≡ k → ⊥) → one_if k n ≡ 0
one_other k n other = rw (ne_eqb n k other) refl

-- how often a number is in a list
abbrev pub many : ℕ → List ℕ → ℕ
many k = sum_by (one_if k)

-- that of a subtree, in the numbers of subtrees
abbrev many_in : ℕ → ℕ → List Subtree → ℕ
many_in depth offset trees = many (number depth offset) (numbers_of trees)

many_append : (depth offset : ℕ) (xs ys : List Subtree) → many_in depth offset (xs ++ ys) ≡ many_in depth offset xs + many_in depth offset ys
many_append depth offset xs ys =
    let number_of = λ (tree : Subtree). number tree.depth tree.offset in
    ap (many (number depth offset)) (map-append number_of xs ys) ∙ sum_by-append (one_if (number depth offset)) (numbers_of xs) (numbers_of ys)

-- it isn't there where all subtrees have what its own hasn't
none_in : (P : Subtree → Type 0) (trees : List Subtree) (depth offset : ℕ) → AllByRecursion P trees → (P (subtree depth offset) → ⊥)
    → many_in depth offset trees ≡ 0
none_in P [] depth offset all hasnt = refl
none_in P (tree ∷ trees) depth offset all hasnt = elim (cases_eq (number tree.depth tree.offset) (number depth offset)) [
  | inr other ↦
      let sum = sum_by-cons (one_if (number depth offset)) (number tree.depth tree.offset) (numbers_of trees) in
      omega (arith, sum, one_other (number depth offset) (number tree.depth tree.offset) other, none_in P trees depth offset all.1 hasnt)
  | inl same ↦
      let deep = same_depth tree.depth tree.offset depth offset same in
      let place = same_place depth tree.offset offset (ap (λ (d : ℕ). number d tree.offset) (sym deep) ∙ same) in
      let is : tree ≡ subtree depth offset = ap (λ (d : ℕ). subtree d tree.offset) deep ∙ ap (subtree depth) place in
      absurd (hasnt (subst P is all.0))
]

-- ---- the subtrees that end with a block

-- so many levels up each ends with it, and lies below
abbrev IsLevel : ℕ → ℕ → Subtree → Type 0
IsLevel block count tree = (end_block_of tree.depth tree.offset ≡ block + 1) × (tree.depth < count)

levels_are : (block count : ℕ) → block < MAX_BLOCKS → count ≤ trailing_ones w64 block + 1 → AllByRecursion (IsLevel block count) (levels block count)
unfolding first_block_of
levels_are block zero few within = tt
levels_are block (suc count) few within =
    let more : levels block (suc count) ≡ levels block count ++ subtree count (block / 2 ^ count) ∷ [] = ap (levels block)
    (sym (add-one count)) ∙ levels-more block count in
    let lower = all_so (IsLevel block count) (IsLevel block (suc count)) (λ tree is. (is.0, omega (arith, is.1))) (levels block count)
    (levels_are block count few (omega (arith, within))) in
    let last : end_block_of count (block / 2 ^ count) ≡ block + 1 = end_first count (block / 2 ^ count) ∙ ends_up block count few (omega (arith, within)) in
    subst (AllByRecursion (IsLevel block (suc count))) (sym more)
    (all_push (IsLevel block (suc count)) (levels block count) (subtree count (block / 2 ^ count)) lower (last, omega arith))

levels_once : (depth offset block count : ℕ) → block < MAX_BLOCKS → count ≤ trailing_ones w64 block + 1 → many_in depth offset (levels block count) ≤ 1
levels_once depth offset block zero few within = omega arith
levels_once depth offset block (suc count) few within =
    let last = subtree count (block / 2 ^ count) in
    let more : levels block (suc count) ≡ levels block count ++ last ∷ [] = ap (levels block) (sym (add-one count)) ∙ levels-more block count in
    let sum = ap (many_in depth offset) more ∙ many_append depth offset (levels block count) (last ∷ []) in
    let are = levels_are block count few (omega (arith, within)) in
    elim (cases_eq count depth) [
      | inr other ↦
          let none = none_in (λ (tree : Subtree). tree.depth ≡ count) (last ∷ []) depth offset (refl, tt) (λ same. other (sym same)) in
          omega (arith, sum, none, levels_once depth offset block count few (omega (arith, within)))
      | inl same ↦
          let none = none_in (IsLevel block count) (levels block count) depth offset are (λ is. omega (arith, is.1, same)) in
          omega (arith, sum, none, one_at_most (number count (block / 2 ^ count)) (number depth offset))
    ]
  where
    one_at_most : (n k : ℕ) → many k (n ∷ []) ≤ 1
    one_at_most n k =
        let sum = sum_by-cons (one_if k) n [] in
        elim (cases_eq n k) [ inl same ↦ omega (arith, sum, one_same k n same) | inr other ↦ omega (arith, sum, one_other k n other) ]

-- ---- those of some blocks

made_in : (depth offset start count : ℕ) → start + count ≤ MAX_BLOCKS → many_in depth offset (made_with start count) ≤ 1
made_in depth offset start zero few = omega arith
made_in depth offset start (suc count) few =
    let block = start + count in
    let sum = ap (many_in depth offset) (made_with-suc start count) ∙ many_append depth offset (made_with start count) (ending_with block) in
    let tops = trailing_ones w64 block + 1 in
    let less : block < MAX_BLOCKS = omega (arith, few) in
    elim (cases_eq (end_block_of depth offset) (block + 1)) [
      | inl ends ↦
          let none = none_in (λ (tree : Subtree). end_block_of tree.depth tree.offset ≤ block)
          (made_with start count) depth offset (made_with-end start count (omega (arith, few)))
          (λ before. omega (arith, before, ends)) in
          omega (arith, sum, none, levels_once depth offset block tops less (omega arith))
      | inr other ↦
          let none = none_in (IsLevel block tops) (ending_with block) depth offset (levels_are block tops less (omega arith)) (λ is. other is.0) in
          omega (arith, sum, none, made_in depth offset start count (omega (arith, few)))
    ]

-- no number comes twice
pub made_once : (k start count : ℕ) → start + count ≤ MAX_BLOCKS → many k (numbers_of (made_with start count)) ≤ 1
made_once k start count few =
    let at = some_number k in
    subst (λ (n : ℕ). many n (numbers_of (made_with start count)) ≤ 1) (sym at.1.1) (made_in at.0 at.1.0 start count few)

-- ---- how many

-- the roots of a block's number are those above its last ones, and one for each of these
roots_above : (block depth : ℕ) → block < MAX_BLOCKS → depth ≤ trailing_ones w64 block
    → length (full_roots_of block) ≡ length (full_roots_of (start_of depth block)) + depth
roots_above block zero few within = let start : block ≡ start_of 0 block = omega arith in ap (λ (n : ℕ). length (full_roots_of n)) start ∙ omega arith
roots_above block (suc depth) few within =
    let here = roots_above block depth few (omega (arith, within)) in
    let one = full-one depth block (one_below block depth few (omega (arith, within))) in
    omega (arith, here, ap length one, length_push (full_roots_of (start_of (suc depth) block)) (subtree depth (block / 2 ^ depth - 1)))

ending_many : (block : ℕ) → block < MAX_BLOCKS → length (ending_with block) + length (full_roots_of (block + 1)) ≡ length (full_roots_of block) + 2
ending_many block few =
    let top = trailing_ones w64 block in
    let above = roots_above block top few (omega arith) in
    let last = full-zero top block (zero_top block top few refl) (ends_up block top few (omega arith)) in
    let count : length (ending_with block) ≡ top + 1 = levels_many (top + 1) in
    omega (arith, above, ap length last, length_push (full_roots_of (start_of top block)) (subtree top (block / 2 ^ top)), count)
  where
    levels_many : (count : ℕ) → length (levels block count) ≡ count
    levels_many zero = refl
    levels_many (suc count) =
        let more : levels block (suc count) ≡ levels block count ++ subtree count (block / 2 ^ count) ∷ [] = ap (levels block)
        (sym (add-one count)) ∙ levels-more block count in
        omega (arith, ap length more, length_push (levels block count) (subtree count (block / 2 ^ count)), levels_many count)

-- two for each block, but for the roots that are more than before
pub made_many : (start count : ℕ) → start + count ≤ MAX_BLOCKS
    → length (made_with start count) + length (full_roots_of (start + count)) ≡ length (full_roots_of start) + 2 * count
made_many start zero few =
    let same : start + 0 ≡ start = omega arith in
    let roots = ap (λ (n : ℕ). length (full_roots_of n)) same in
    omega (arith, roots)
made_many start (suc count) few =
    let block = start + count in
    let next : block + 1 ≡ start + suc count = omega arith in
    let sum = ap length (made_with-suc start count) ∙ length-append (made_with start count) (ending_with block) in
    let roots = ap (λ (n : ℕ). length (full_roots_of n)) next in
    omega (arith, sum, roots, made_many start count (omega (arith, few)), ending_many block (omega (arith, few)))
