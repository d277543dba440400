-- A batch's nodes in the order of their numbers: each number comes once, so they ascend, and they put in the same values.
use Rattle.std.proofs.Common.{◌≡◌, ℕ, zero, suc, ◌+◌, ◌/◌, ◌^◌, ◌<◌, ◌≤◌, inl, inr, Bool, List, [], ◌∷◌, ◌++◌, length, map, get_or, nat_eq, if◌then◌else◌, Option, None, refl, sym, ap, subst, ◌∙◌, arith, add-one}
use Rattle.std.specs.Prelude.{sum_by}
use Rattle.std.specs.List.{AllByRecursion, All, Contains}
use Rattle.std.specs.List.Sorted.{IsPermutation, IsNonDecreasingBy}
use Rattle.std.specs.Int.{w64, trailing_ones}
use Rattle.std.proofs.lemmas.Bool.{cases_eq, eq-eqb, ne_eqb}
use Rattle.std.proofs.lemmas.List.{map-append}
use Rattle.std.proofs.lemmas.List.Elements.{All-cons, All-nil}
use Rattle.std.proofs.lemmas.List.Kept.{AllPairs-cons}
use Rattle.std.proofs.lemmas.List.Sorted.{IsPermutation-sym, IsPermutation-map, Contains-permutation, list_any-IsPermutation, sum_by-IsPermutation}
use Rattle.std.proofs.lemmas.List.Sums.{sum_by-append, sum_by-cons}
use Rattle.flat_tree.specs.Subtrees.{Subtree, subtree, number, numbers_of, first_block_of, end_block_of}
use Rattle.flat_tree.specs.declared.limits.TheConstants.{MAX_BLOCKS}
use Rattle.flat_tree.proofs.NumberLemmas.{end_first, same_depth, same_place, some_number}
use Rattle.node_set.proofs.AppendLemmas.{all_push, all_so}
use Rattle.merkle_nodes.specs.declared.node.Node.{Node}
use Rattle.merkle_nodes.specs.declared.node.Twig.{Twig}
use Rattle.merkle_nodes.specs.Joined.{Values}
use Rattle.merkle_nodes.specs.Nodes.{AreNodes}
use Rattle.merkle_batch.specs.Batch.{ending_with, made_with}
use Rattle.merkle_batch.proofs.Levels.{ends_up, levels, levels-more}
use Rattle.merkle_batch.proofs.Made.{made_with-suc, made_with-end}
use Rattle.node_set.specs.Nodes.{with_nodes}
use Rattle.node_set.proofs.CoverLemmas.{all_at}
use Rattle.log_change.specs.LogChange.{Ascend}
use Rattle.log_change.proofs.Named.{number_of, HasValue, numbers_are, values_are, all_put}

-- 1 for a number, and 0 for another
abbrev pub one_if : ℕ → ℕ → ℕ
one_if k n = if nat_eq n k then 1 else 0

one_same : (k n : ℕ) → n ≡ k → one_if k n ≡ 1
one_same k n same = rw (eq-eqb n k same) refl

one_other : (k n : ℕ) → (n ≡ k → ⊥) → one_if k n ≡ 0
one_other k n other = rw (ne_eqb n k other) refl

-- how often a number is in a list
abbrev pub many : ℕ → List ℕ → ℕ
many k = sum_by (one_if k)

-- that of a subtree, in the numbers of subtrees
abbrev pub many_in : ℕ → ℕ → List Subtree → ℕ
many_in depth offset trees = many (number depth offset) (numbers_of trees)

pub many_append : (depth offset : ℕ) (xs ys : List Subtree) → many_in depth offset (xs ++ ys) ≡ many_in depth offset xs + many_in depth offset ys
many_append depth offset xs ys =
    let number_of = λ (tree : Subtree). number tree.depth tree.offset in
    ap (many (number depth offset)) (map-append number_of xs ys) ∙ sum_by-append (one_if (number depth offset)) (numbers_of xs) (numbers_of ys)

-- it isn't there where all subtrees have what its own hasn't
none_in : (P : Subtree → Type 0) (trees : List Subtree) (depth offset : ℕ) → AllByRecursion P trees → (P (subtree depth offset) → ⊥)
    → many_in depth offset trees ≡ 0
none_in P [] depth offset all hasnt = refl
none_in P (tree ∷ trees) depth offset all hasnt = elim (cases_eq (number tree.depth tree.offset) (number depth offset)) [
  | inr other ↦
      let sum = sum_by-cons (one_if (number depth offset)) (number tree.depth tree.offset) (numbers_of trees) in
      omega (arith, sum, one_other (number depth offset) (number tree.depth tree.offset) other, none_in P trees depth offset all.1 hasnt)
  | inl same ↦
      let deep = same_depth tree.depth tree.offset depth offset same in
      let place = same_place depth tree.offset offset (ap (λ (d : ℕ). number d tree.offset) (sym deep) ∙ same) in
      let is : tree ≡ subtree depth offset = ap (λ (d : ℕ). subtree d tree.offset) deep ∙ ap (subtree depth) place in
      absurd (hasnt (subst P is all.0))
]

-- ---- the subtrees that end with a block

-- so many levels up each ends with it, and lies below
abbrev IsLevel : ℕ → ℕ → Subtree → Type 0
IsLevel block count tree = (end_block_of tree.depth tree.offset ≡ block + 1) × (tree.depth < count)

levels_are : (block count : ℕ) → block < MAX_BLOCKS → count ≤ trailing_ones w64 block + 1 → AllByRecursion (IsLevel block count) (levels block count)
unfolding first_block_of
levels_are block zero few within = tt
levels_are block (suc count) few within =
    let more : levels block (suc count) ≡ levels block count ++ subtree count (block / 2 ^ count) ∷ [] = ap (levels block)
    (sym (add-one count)) ∙ levels-more block count in
    let lower = all_so (IsLevel block count) (IsLevel block (suc count)) (λ tree is. (is.0, omega (arith, is.1))) (levels block count)
    (levels_are block count few (omega (arith, within))) in
    let last : end_block_of count (block / 2 ^ count) ≡ block + 1 = end_first count (block / 2 ^ count) ∙ ends_up block count few (omega (arith, within)) in
    subst (AllByRecursion (IsLevel block (suc count))) (sym more)
    (all_push (IsLevel block (suc count)) (levels block count) (subtree count (block / 2 ^ count)) lower (last, omega arith))

levels_once : (depth offset block count : ℕ) → block < MAX_BLOCKS → count ≤ trailing_ones w64 block + 1 → many_in depth offset (levels block count) ≤ 1
levels_once depth offset block zero few within = omega arith
levels_once depth offset block (suc count) few within =
    let last = subtree count (block / 2 ^ count) in
    let more : levels block (suc count) ≡ levels block count ++ last ∷ [] = ap (levels block) (sym (add-one count)) ∙ levels-more block count in
    let sum = ap (many_in depth offset) more ∙ many_append depth offset (levels block count) (last ∷ []) in
    let are = levels_are block count few (omega (arith, within)) in
    elim (cases_eq count depth) [
      | inr other ↦
          let none = none_in (λ (tree : Subtree). tree.depth ≡ count) (last ∷ []) depth offset (refl, tt) (λ same. other (sym same)) in
          omega (arith, sum, none, levels_once depth offset block count few (omega (arith, within)))
      | inl same ↦
          let none = none_in (IsLevel block count) (levels block count) depth offset are (λ is. omega (arith, is.1, same)) in
          omega (arith, sum, none, one_at_most (number count (block / 2 ^ count)) (number depth offset))
    ]
  where
    one_at_most : (n k : ℕ) → many k (n ∷ []) ≤ 1
    one_at_most n k =
        let sum = sum_by-cons (one_if k) n [] in
        elim (cases_eq n k) [ inl same ↦ omega (arith, sum, one_same k n same) | inr other ↦ omega (arith, sum, one_other k n other) ]

-- ---- those of some blocks

made_in : (depth offset start count : ℕ) → start + count ≤ MAX_BLOCKS → many_in depth offset (made_with start count) ≤ 1
made_in depth offset start zero few = omega arith
made_in depth offset start (suc count) few =
    let block = start + count in
    let sum = ap (many_in depth offset) (made_with-suc start count) ∙ many_append depth offset (made_with start count) (ending_with block) in
    let tops = trailing_ones w64 block + 1 in
    let less : block < MAX_BLOCKS = omega (arith, few) in
    elim (cases_eq (end_block_of depth offset) (block + 1)) [
      | inl ends ↦
          let none = none_in (λ (tree : Subtree). end_block_of tree.depth tree.offset ≤ block)
          (made_with start count) depth offset (made_with-end start count (omega (arith, few)))
          (λ before. omega (arith, before, ends)) in
          omega (arith, sum, none, levels_once depth offset block tops less (omega arith))
      | inr other ↦
          let none = none_in (IsLevel block tops) (ending_with block) depth offset (levels_are block tops less (omega arith)) (λ is. other is.0) in
          omega (arith, sum, none, made_in depth offset start count (omega (arith, few)))
    ]

-- no number comes twice
made_once : (k start count : ℕ) → start + count ≤ MAX_BLOCKS → many k (numbers_of (made_with start count)) ≤ 1
made_once k start count few =
    let at = some_number k in
    subst (λ (n : ℕ). many n (numbers_of (made_with start count)) ≤ 1) (sym at.1.1) (made_in at.0 at.1.0 start count few)

-- ---- in order

-- a number that comes no more is below those that aren't less
none_again : (k : ℕ) (nodes : List Node) → many k (map number_of nodes) ≡ 0 → AllByRecursion (λ (node : Node). k ≤ node.index) nodes
    → All (λ (node : Node). k < node.index) nodes
none_again k [] none all = All-nil (λ (node : Node). k < node.index)
none_again k (node ∷ nodes) none all =
    let sum = sum_by-cons (one_if k) node.index (map number_of nodes) in
    elim (cases_eq node.index k) [
      | inl same ↦ absurd (omega (arith, none, sum, one_same k node.index same))
      | inr other ↦
          All-cons (λ (node : Node). k < node.index) node nodes (omega (arith, all.0, other))
          (none_again k nodes (omega (arith, none, sum, one_other k node.index other)) all.1)
    ]

-- nodes whose numbers don't fall, and come once each, ascend
pub once_ascend : (nodes : List Node) → IsNonDecreasingBy number_of nodes → ((k : ℕ) → many k (map number_of nodes) ≤ 1) → Ascend nodes
once_ascend [] sorted once = λ i j d less within. absurd (omega (arith, within))
once_ascend (node ∷ nodes) sorted once =
    let later = each nodes (λ j d less. sorted 0 (suc j) d (omega arith) (omega (arith, less))) in
    let sum = λ (k : ℕ). sum_by-cons (one_if k) node.index (map number_of nodes) in
    AllPairs-cons (λ (one other : Node). one.index < other.index) node nodes
    (none_again node.index nodes (omega (arith, once node.index, sum node.index, one_same node.index node.index refl)) later)
    (once_ascend nodes (λ i j d before less. sorted (suc i) (suc j) d (omega (arith, before)) (omega (arith, less))) (λ k. omega (arith, once k, sum k)))
  where
    each : (ns : List Node) → ((j : ℕ) (d : Node) → j < length ns → node.index ≤ number_of (get_or ns j d))
        → AllByRecursion (λ (n : Node). node.index ≤ n.index) ns
    each [] up = tt
    each (n ∷ ns) up = (up 0 n (omega arith), each ns (λ j d less. up (suc j) d (omega (arith, less))))

-- what holds of each holds in another order
pub all_moved : (P : Node → Type 0) (nodes records : List Node) → IsPermutation nodes records → AllByRecursion P nodes → AllByRecursion P records
all_moved P nodes records moved all =
    each records (λ node there. all_at P nodes node all (Contains-permutation records nodes node (IsPermutation-sym nodes records moved) there))
  where
    each : (ns : List Node) → ((node : Node) → Contains ns node → P node) → AllByRecursion P ns
    each [] has = tt
    each (node ∷ ns) has = (has node (0, omega arith, refl), each ns (λ other there. has other (suc there.0, omega (arith, there.1), there.2)))

module _ (value : Values) (start count : ℕ) (few : start + count ≤ MAX_BLOCKS) (nodes records : List Node) (are : AreNodes value (made_with start count) nodes)
    (moved : IsPermutation nodes records) where
  pub moved_ascend : IsNonDecreasingBy number_of records → Ascend records
  moved_ascend sorted =
      once_ascend records sorted (λ k.
      let same = sum_by-IsPermutation (one_if k) (map number_of nodes) (map number_of records) (IsPermutation-map number_of nodes records moved) in
      let own = ap (many k) (numbers_are value (made_with start count) nodes are) in
      omega (arith, same, own, made_once k start count few))

  pub moved_values : (d o : ℕ) → with_nodes (λ d o. None) records d o ≡ with_nodes (λ d o. None) nodes d o
  moved_values d o =
      let all = values_are value (made_with start count) nodes are in
      let same = list_any-IsPermutation (λ (n : ℕ). nat_eq n (number d o)) (map number_of nodes) (map number_of records) (IsPermutation-map number_of nodes records moved) in
      all_put value d o records (λ d o. None) (all_moved (HasValue value) nodes records moved all)
      ∙ ap (λ (test : Bool). if test then value d o else None) (sym same)
      ∙ sym (all_put value d o nodes (λ d o. None) all)
