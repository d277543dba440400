-- A batch's nodes, put in the order of their numbers: they rise, and have the values that they had.
use Rattle.std.proofs.Common.{◌≡◌, ℕ, suc, ◌+◌, ◌<◌, ◌≤◌, inl, inr, Bool, true, false, List, [], ◌∷◌, length, map, get_or, nat_eq, if◌then◌else◌, Option, Some, None, refl, sym, ap, ◌∙◌, arith}
use Rattle.std.specs.Prelude.{option_map}
use Rattle.std.specs.List.{AllByRecursion, Contains, list_any}
use Rattle.std.specs.List.Sorted.{IsPermutation, IsNonDecreasingBy}
use Rattle.std.proofs.lemmas.Bool.{cases_eq, eq-eqb, ne_eqb}
use Rattle.std.proofs.lemmas.List.{length-map}
use Rattle.std.proofs.lemmas.List.Sorted.{IsPermutation-sym, IsPermutation-map, Contains-permutation, length_permutation, list_any-IsPermutation, sum_by-IsPermutation}
use Rattle.std.proofs.lemmas.List.Sums.{sum_by-cons}
use Rattle.flat_tree.specs.Subtrees.{Subtree, number, numbers_of}
use Rattle.flat_tree.specs.declared.limits.TheConstants.{MAX_BLOCKS, MAX_ROOTS, MAX_BATCH_BLOCKS}
use Rattle.flat_tree.proofs.NumberLemmas.{same_depth, same_place}
use Rattle.flat_tree.proofs.RootLemmas.{length-full}
use Rattle.merkle_nodes.specs.declared.node.Node.{Node}
use Rattle.merkle_nodes.specs.declared.node.Twig.{Twig}
use Rattle.merkle_nodes.specs.Joined.{Values}
use Rattle.merkle_nodes.specs.Nodes.{AreNodes, node_in}
use Rattle.merkle_nodes.specs.Roots.{node_of, twig_of}
use Rattle.merkle_nodes.proofs.JoinedValues.{node_in-value}
use Rattle.merkle_batch.specs.Batch.{made_with}
use Rattle.oplog_form.specs.declared.entry.TheConstants.{MAX_ENTRY_NODES}
use Rattle.oplog_form.specs.Nodes.{Rise}
use Rattle.node_set.specs.Nodes.{with_node, with_nodes}
use Rattle.node_set.proofs.CoverLemmas.{all_at}
use Rattle.core_disk.specs.Opened.{values_in}
use Rattle.core_disk.proofs.MadeNumbers.{many, one_if, one_same, one_other, made_once, made_many}

abbrev pub number_of : Node → ℕ
number_of node = node.index

-- ---- the nodes of subtrees

-- a subtree's node has its number
own_number : (value : Option Twig) (depth offset : ℕ) (node : Node) → Some node ≡ option_map (node_of depth offset) value → node.index ≡ number depth offset
own_number None depth offset node is = cc
own_number (Some twig) depth offset node is = let same : node ≡ node_of depth offset twig = cc in ap number_of same

pub numbers_are : (value : Values) (trees : List Subtree) (nodes : List Node) → AreNodes value trees nodes → map number_of nodes ≡ numbers_of trees
numbers_are value [] [] are = refl
numbers_are value [] (node ∷ nodes) are = let clash : Some node ∷ map Some nodes ≡ [] = are in cc
numbers_are value (tree ∷ trees) [] are = let clash : [] ≡ node_in value tree ∷ map (node_in value) trees = are in cc
numbers_are value (tree ∷ trees) (node ∷ nodes) are =
    let first : Some node ≡ node_in value tree = cc in
    let rest : map Some nodes ≡ map (node_in value) trees = cc in
    ap (λ (n : ℕ). n ∷ map number_of nodes) (own_number (value tree.depth tree.offset) tree.depth tree.offset node first)
    ∙ ap (λ (ns : List ℕ). number tree.depth tree.offset ∷ ns) (numbers_are value trees nodes rest)

-- a node has the value of its number
abbrev pub HasValue : Values → Node → Type 0
HasValue value node = (depth offset : ℕ) → node.index ≡ number depth offset → value depth offset ≡ Some (twig_of node)

values_are : (value : Values) (trees : List Subtree) (nodes : List Node) → AreNodes value trees nodes → AllByRecursion (HasValue value) nodes
values_are value trees [] are = tt
values_are value [] (node ∷ nodes) are = let clash : Some node ∷ map Some nodes ≡ [] = are in cc
values_are value (tree ∷ trees) (node ∷ nodes) are =
    let first : Some node ≡ node_in value tree = cc in
    let rest : map Some nodes ≡ map (node_in value) trees = cc in
    (own first, values_are value trees nodes rest)
  where
    own : Some node ≡ node_in value tree → HasValue value node
    own first depth offset is =
        let same = sym (own_number (value tree.depth tree.offset) tree.depth tree.offset node first) ∙ is in
        let deep = same_depth tree.depth tree.offset depth offset same in
        let place = same_place depth tree.offset offset (ap (λ (d : ℕ). number d tree.offset) (sym deep) ∙ same) in
        sym (ap (λ (d : ℕ). value d tree.offset) deep ∙ ap (value depth) place) ∙ node_in-value value tree node (sym first)

-- ---- what nodes with such values put in

-- a number is among them
abbrev pub is_among : ℕ → List Node → Bool
is_among k nodes = list_any (λ (n : ℕ). nat_eq n k) (map number_of nodes)

pub values_put : (value : Values) (nodes : List Node) (start : Values) (depth offset : ℕ) → AllByRecursion (HasValue value) nodes
    → with_nodes start nodes depth offset ≡ (if is_among (number depth offset) nodes then value depth offset else start depth offset)
unfolding with_nodes
values_put value [] start depth offset all = refl
values_put value (node ∷ nodes) start depth offset all =
    values_put value nodes (with_node start node) depth offset all.1 ∙ (elim (cases_eq node.index (number depth offset)) [
      | inr other ↦ rw (ne_eqb node.index (number depth offset) other) refl
      | inl here ↦ rw (eq-eqb node.index (number depth offset) here) (either (is_among (number depth offset) nodes) (all.0 depth offset here))
    ])
  where
    either : (test : Bool) → value depth offset ≡ Some (twig_of node) → (if test then value depth offset else Some (twig_of node)) ≡ value depth offset
    either true is = refl
    either false is = sym is

-- what holds of each holds in another order
pub all_moved : (P : Node → Type 0) (nodes records : List Node) → IsPermutation nodes records → AllByRecursion P nodes → AllByRecursion P records
all_moved P nodes records moved all =
    each records (λ node there. all_at P nodes node all (Contains-permutation records nodes node (IsPermutation-sym nodes records moved) there))
  where
    each : (ns : List Node) → ((node : Node) → Contains ns node → P node) → AllByRecursion P ns
    each [] has = tt
    each (node ∷ ns) has = (has node (0, omega arith, refl), each ns (λ other there. has other (suc there.0, omega (arith, there.1), there.2)))

-- in another order they put in the same
pub permuted_values : (value : Values) (trees : List Subtree) (nodes records : List Node) → AreNodes value trees nodes → IsPermutation nodes records
    → (depth offset : ℕ) → values_in records depth offset ≡ values_in nodes depth offset
permuted_values value trees nodes records are moved depth offset =
    let all = values_are value trees nodes are in
    let all_records = all_moved (HasValue value) nodes records moved all in
    let same = list_any-IsPermutation (λ (n : ℕ). nat_eq n (number depth offset)) (map number_of nodes) (map number_of records)
    (IsPermutation-map number_of nodes records moved) in
    values_put value records (λ d o. None) depth offset all_records
    ∙ ap (λ (test : Bool). if test then value depth offset else None) (sym same)
    ∙ sym (values_put value nodes (λ d o. None) depth offset all)

-- ---- in order

-- numbers that don't fall and of which none comes twice rise
not_again : (k : ℕ) (nodes : List Node) → many k (map number_of nodes) ≡ 0 → AllByRecursion (λ (node : Node). k ≤ node.index) nodes
    → AllByRecursion (λ (node : Node). suc k ≤ node.index) nodes
not_again k [] none all = tt
not_again k (node ∷ nodes) none all =
    let sum = sum_by-cons (one_if k) node.index (map number_of nodes) in
    elim (cases_eq node.index k) [
      | inl same ↦ absurd (omega (arith, none, sum, one_same k node.index same))
      | inr other ↦
          (omega (arith, all.0, other), not_again k nodes (omega (arith, none, sum, one_other k node.index other)) all.1)
    ]

rise_once : (nodes : List Node) (least : ℕ) → IsNonDecreasingBy number_of nodes → ((k : ℕ) → many k (map number_of nodes) ≤ 1)
    → AllByRecursion (λ (node : Node). least ≤ node.index) nodes → Rise least nodes
rise_once [] least sorted once all = tt
rise_once (node ∷ nodes) least sorted once all =
    let later = each nodes (λ j d less. sorted 0 (suc j) d (omega arith) (omega (arith, less))) in
    let sum = λ (k : ℕ). sum_by-cons (one_if k) node.index (map number_of nodes) in
    let one = one_same node.index node.index refl in
    let above = not_again node.index nodes (omega (arith, once node.index, sum node.index, one)) later in (
      all.0,
      rise_once nodes (suc node.index) (λ i j d before less. sorted (suc i) (suc j) d (omega (arith, before)) (omega (arith, less)))
          (λ k. omega (arith, once k, sum k)) above,
    )
  where
    each : (ns : List Node) → ((j : ℕ) (d : Node) → j < length ns → node.index ≤ number_of (get_or ns j d))
        → AllByRecursion (λ (n : Node). node.index ≤ n.index) ns
    each [] up = tt
    each (n ∷ ns) up = (up 0 n (omega arith), each ns (λ j d less. up (suc j) d (omega (arith, less))))

module _ (value : Values) (start count : ℕ) (few : start + count ≤ MAX_BLOCKS) (nodes records : List Node) (are : AreNodes value (made_with start count) nodes)
    (moved : IsPermutation nodes records) where
  -- a batch's nodes in order rise
  pub batch_rises : IsNonDecreasingBy number_of records → Rise 0 records
  batch_rises sorted =
      rise_once records 0 sorted (λ k.
      let same = sum_by-IsPermutation (one_if k) (map number_of nodes) (map number_of records) (IsPermutation-map number_of nodes records moved) in
      let own = ap (many k) (numbers_are value (made_with start count) nodes are) in
      omega (arith, same, own, made_once k start count few)) (least records)
    where
      least : (ns : List Node) → AllByRecursion (λ (node : Node). 0 ≤ node.index) ns
      least [] = tt
      least (n ∷ ns) = (omega arith, least ns)

  -- and find room
  pub batch_few : count ≤ MAX_BATCH_BLOCKS → length records ≤ MAX_ENTRY_NODES
  batch_few within =
      let same = length_permutation nodes records moved in
      let own : length nodes ≡ length (made_with start count) =
      sym (length-map nodes number_of) ∙ ap length (numbers_are value (made_with start count) nodes are) ∙ length-map (made_with start count)
      (λ (t : Subtree). number t.depth t.offset) in
      omega (arith, same, own, made_many start count few, length-full MAX_ROOTS start (omega arith) (omega (arith, few)), within)
