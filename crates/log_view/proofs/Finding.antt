-- Nodes that are found by their numbers, and what they put in.
use Rattle.std.proofs.Common.{◌≡◌, ◌≢◌, ℕ, zero, suc, ◌<◌, ◌≤◌, inl, inr, true, false, List, [], ◌∷◌, get_or, nat_eq, Some, refl, sym, ap, ◌∙◌, arith}
use Rattle.std.specs.Prelude.{◌&&◌}
use Rattle.std.specs.List.{AllPairs, Contains}
use Rattle.std.specs.List.Sorted.{IsNonDecreasingBy, IsPartitionPoint}
use Rattle.std.specs.Ordering.{nat_cmp, ordering_index}
use Rattle.std.specs.declared.cmp.Ordering.TheVariants.{Less, Greater}
use Rattle.std.specs.Str.{bytes_eq}
use Rattle.std.proofs.lemmas.Bool.{cases_lt, eq-eqb, ne_eqb, and_from, or_parts}
use Rattle.std.proofs.lemmas.Bool.Decides.{nat_tests}
use Rattle.std.proofs.lemmas.Cmp.{ranked}
use Rattle.std.proofs.lemmas.List.Elements.{recursion_from_All}
use Rattle.std.proofs.lemmas.List.Folds.{list_any_at, list_any_none}
use Rattle.std.proofs.lemmas.Slice.Eq.{bytes_eq-Decides}
use Rattle.flat_tree.specs.Subtrees.{number}
use Rattle.merkle_nodes.specs.declared.node.Node.{Node}
use Rattle.merkle_nodes.specs.declared.node.Twig.{Twig}
use Rattle.merkle_nodes.specs.Joined.{Values}
use Rattle.merkle_nodes.specs.Roots.{twig_of}
use Rattle.node_set.specs.Same.{is_same}
use Rattle.node_set.specs.Nodes.{with_node, with_nodes}
use Rattle.node_set.proofs.NodeMaps.{with_nodes-other}
use Rattle.log_view.specs.Overlays.{has_number, has_node}

-- the numbers rise
abbrev pub Ascend : List Node → Type 0
Ascend = AllPairs (λ (one other : Node). one.index < other.index)

-- ---- the search

module _ (nodes : List Node) (ascend : Ascend nodes) (sought : ℕ) where
  -- the comparisons with a number rise along the nodes, as a binary search asks
  comparisons_rise : IsNonDecreasingBy (λ (node : Node). ordering_index (nat_cmp node.index sought)) nodes
  comparisons_rise i j d ordered inside =
      let numbers_rise : (get_or nodes i d).index ≤ (get_or nodes j d).index = elim (cases_lt i j) [
        | inl less ↦ omega (arith, ascend i j d less inside)
        | inr more ↦
            let same : i ≡ j = omega (arith, ordered, more) in
            let one : (get_or nodes i d).index ≡ (get_or nodes j d).index = ap (λ (k : ℕ). (get_or nodes k d).index) same in
            omega (arith, one)
      ] in
      grind (arith, nat_tests)

  -- where the search ends in a gap, no node has the number
  pub number_absent : (at : ℕ)
      → (IsNonDecreasingBy (λ (node : Node). ordering_index (nat_cmp node.index sought)) nodes
      → IsPartitionPoint (λ (node : Node). nat_cmp node.index sought ≡ Less) (λ (node : Node). nat_cmp node.index sought ≡ Greater) nodes at)
      → has_number nodes sought ≡ false
  number_absent at parted =
      list_any_none (λ (node : Node). nat_eq node.index sought) nodes (λ k d inside. ne_eqb (get_or nodes k d).index sought (λ same. elim (cases_lt k at) [
        | inl before ↦
            let below = ranked (get_or nodes k d).index sought _ (sym ((parted comparisons_rise).0 k d (omega arith) before)) in
            omega (arith, below, same)
        | inr behind ↦
            let above = ranked (get_or nodes k d).index sought _ (sym ((parted comparisons_rise).1 k d behind inside)) in
            omega (arith, above, same)
      ]))

-- ---- what is put in

-- a node is the value of its number where the numbers rise
pub with_nodes-among : (nodes : List Node) (value : Values) (node : Node) (depth offset : ℕ) → Ascend nodes → Contains nodes node
    → node.index ≡ number depth offset → with_nodes value nodes depth offset ≡ Some (twig_of node)
unfolding with_nodes
with_nodes-among [] value node depth offset ascend (k, less, same) is = absurd (omega (arith, less))
with_nodes-among (first ∷ rest) value node depth offset ascend (zero, less, same) is =
    let here : first.index ≡ number depth offset = ap (λ (n : Node). n.index) same ∙ is in
    let others = recursion_from_All (λ (n : Node). n.index ≢ number depth offset) rest (λ k d low equal.
    let above : first.index < (get_or rest k d).index = ascend 0 (suc k) d (omega arith) (omega (arith, low)) in
    omega (arith, above, equal, here)) in
    with_nodes-other rest (with_node value first) depth offset others
    ∙ rw (eq-eqb first.index (number depth offset) here) (ap (λ (n : Node). Some (twig_of n)) same)
with_nodes-among (first ∷ rest) value node depth offset ascend (suc k, less, same) is =
    with_nodes-among rest (with_node value first) node depth offset
    (λ i j d low high. ascend (suc i) (suc j) d (omega (arith, low)) (omega (arith, high))) (k, omega (arith, less), same) is

-- where no node has a number, its value stays
pub with_nodes-absent : (nodes : List Node) (value : Values) (depth offset : ℕ) → has_number nodes (number depth offset) ≡ false
    → with_nodes value nodes depth offset ≡ value depth offset
unfolding with_nodes
with_nodes-absent [] value depth offset none = refl
with_nodes-absent (first ∷ rest) value depth offset none =
    let parts = or_parts (nat_eq first.index (number depth offset)) (has_number rest (number depth offset)) none in
    with_nodes-absent rest (with_node value first) depth offset parts.1 ∙ rw parts.0 refl

-- ---- the tests

same_itself : (twig : Twig) → is_same twig twig ≡ true
same_itself twig =
    and_from (nat_eq twig.size twig.size) (bytes_eq twig.hash twig.hash) (eq-eqb twig.size twig.size refl) ((bytes_eq-Decides twig.hash twig.hash).1 refl)

-- a node of the list is in it with its number, size and hash
pub has_node-among : (nodes : List Node) (node : Node) → Contains nodes node → has_node nodes node.index (twig_of node) ≡ true
has_node-among nodes node there =
    let test = λ (n : Node). nat_eq n.index node.index && is_same (twig_of n) (twig_of node) in
    let own : test node ≡ true =
    and_from (nat_eq node.index node.index) (is_same (twig_of node) (twig_of node)) (eq-eqb node.index node.index refl) (same_itself (twig_of node)) in
    list_any_at test nodes there.0 node there.1 (ap test there.2 ∙ own)
