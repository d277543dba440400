-- What the nodes of subtrees put in: each its value.
use Rattle.std.proofs.Common.{◌≡◌, ℕ, zero, suc, ◌<◌, inl, inr, List, [], ◌∷◌, length, map, get_or, Option, Some, None, refl, sym, ap, ◌∙◌, arith}
use Rattle.std.specs.Prelude.{option_map}
use Rattle.std.specs.List.{Contains}
use Rattle.std.proofs.lemmas.Bool.{cases_eq, eq-eqb, ne_eqb}
use Rattle.flat_tree.specs.Subtrees.{Subtree, subtree, number}
use Rattle.flat_tree.proofs.NumberLemmas.{same_depth, same_place}
use Rattle.merkle_nodes.specs.declared.node.Node.{Node}
use Rattle.merkle_nodes.specs.declared.node.Twig.{Twig}
use Rattle.merkle_nodes.specs.Roots.{node_of, twig_of}
use Rattle.merkle_nodes.specs.Joined.{Values}
use Rattle.merkle_nodes.specs.Nodes.{AreNodes, node_in}
use Rattle.node_set.specs.Nodes.{with_node, with_nodes}

-- the node is that of the subtree with its value
record IsNode (values : Values) (tree : Subtree) (node : Node) : Type 0 where
  value : values tree.depth tree.offset ≡ Some (twig_of node)
  numbered : node.index ≡ number tree.depth tree.offset

is_node : (values : Values) (tree : Subtree) (node : Node) → Some node ≡ node_in values tree → IsNode values tree node
is_node values tree node is = ByValue (values tree.depth tree.offset) refl
  where
    ByValue : (value : Option Twig) → values tree.depth tree.offset ≡ value → IsNode values tree node
    ByValue None none = let clash : Some node ≡ None = is ∙ ap (option_map (node_of tree.depth tree.offset)) none in cc
    ByValue (Some twig) some =
        let whole : Some node ≡ Some (node_of tree.depth tree.offset twig) = is ∙ ap (option_map (node_of tree.depth tree.offset)) some in
        let same : node ≡ node_of tree.depth tree.offset twig = cc in
        record { value = some ∙ ap (λ (n : Node). Some (twig_of n)) (sym same); numbered = ap (λ (n : Node). n.index) same }

first_node : (values : Values) (tree : Subtree) (trees : List Subtree) (node : Node) (nodes : List Node) → AreNodes values (tree ∷ trees) (node ∷ nodes)
    → IsNode values tree node
first_node values tree trees node nodes are = let head : Some node ≡ node_in values tree = cc in is_node values tree node head

other_nodes : (values : Values) (tree : Subtree) (trees : List Subtree) (node : Node) (nodes : List Node) → AreNodes values (tree ∷ trees) (node ∷ nodes)
    → AreNodes values trees nodes
other_nodes values tree trees node nodes are = cc

-- a node put in where the values are its own leaves them
put_same : (values start : Values) (tree : Subtree) (node : Node) (depth offset : ℕ) → IsNode values tree node → start depth offset ≡ values depth offset
    → with_node start node depth offset ≡ values depth offset
put_same values start tree node depth offset is same = elim (cases_eq node.index (number depth offset)) [
  | inr other ↦ rw (ne_eqb node.index (number depth offset) other) same
  | inl here ↦
      let numbers : number tree.depth tree.offset ≡ number depth offset = sym is.numbered ∙ here in
      let deep = same_depth tree.depth tree.offset depth offset numbers in
      let place = same_place depth tree.offset offset (ap (λ (d : ℕ). number d tree.offset) (sym deep) ∙ numbers) in
      rw (eq-eqb node.index (number depth offset) here)
      (sym is.value ∙ ap (λ (d : ℕ). values d tree.offset) deep ∙ ap (values depth) place)
]

-- where the values were there before, they stay
pub put_keeps : (trees : List Subtree) (nodes : List Node) (values start : Values) (depth offset : ℕ) → AreNodes values trees nodes
    → start depth offset ≡ values depth offset → with_nodes start nodes depth offset ≡ values depth offset
unfolding with_nodes
put_keeps trees [] values start depth offset are same = same
put_keeps [] (node ∷ nodes) values start depth offset are same = let clash : Some node ∷ map Some nodes ≡ [] = are in cc
put_keeps (tree ∷ trees) (node ∷ nodes) values start depth offset are same =
    put_keeps trees nodes values (with_node start node) depth offset (other_nodes values tree trees node nodes are)
    (put_same values start tree node depth offset (first_node values tree trees node nodes are) same)

-- and each subtree of the list has its value
pub put_has : (trees : List Subtree) (nodes : List Node) (values start : Values) (depth offset : ℕ) → AreNodes values trees nodes
    → Contains trees (subtree depth offset) → with_nodes start nodes depth offset ≡ values depth offset
unfolding with_nodes
put_has trees nodes values start depth offset are there = at trees nodes start there.0 are there.1 there.2
  where
    at : (trees : List Subtree) (nodes : List Node) (start : Values) (place : ℕ) → AreNodes values trees nodes → place < length trees
        → get_or trees place (subtree depth offset) ≡ subtree depth offset → with_nodes start nodes depth offset ≡ values depth offset
    at [] nodes start place are less is = absurd (omega (arith, less))
    at (tree ∷ trees) [] start place are less is = let clash : [] ≡ node_in values tree ∷ map (node_in values) trees = are in cc
    at (tree ∷ trees) (node ∷ nodes) start zero are less is =
        let first = first_node values tree trees node nodes are in
        let deep : tree.depth ≡ depth = ap (λ (t : Subtree). t.depth) is in
        let place : tree.offset ≡ offset = ap (λ (t : Subtree). t.offset) is in
        let number_is : node.index ≡ number depth offset = first.numbered ∙ ap (λ (d : ℕ). number d tree.offset) deep ∙ ap (number depth) place in
        let value : values depth offset ≡ Some (twig_of node) = sym (ap (λ (d : ℕ). values d tree.offset) deep ∙ ap (values depth) place) ∙ first.value in
        let put : with_node start node depth offset ≡ values depth offset = rw (eq-eqb node.index (number depth offset) number_is) (sym value) in
        put_keeps trees nodes values (with_node start node) depth offset (other_nodes values tree trees node nodes are) put
    at (tree ∷ trees) (node ∷ nodes) start (suc place) are less is =
        at trees nodes (with_node start node) place (other_nodes values tree trees node nodes are) (omega (arith, less)) is
