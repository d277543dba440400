-- Nodes in the order of their numbers: one more at its place.
use Rattle.std.proofs.Common.{◌≡◌, ℕ, false, ◌<◌, ◌≤◌, inl, inr, List, [], ◌∷◌, ◌++◌, Some, nat_eq, if◌then◌else◌, refl, ap, ◌∙◌, arith}
use Rattle.std.proofs.lemmas.Bool.{cases_eq, eq-eqb, ne_eqb}
use Rattle.flat_tree.specs.Subtrees.{number}
use Rattle.merkle_nodes.specs.declared.node.Node.{Node}
use Rattle.merkle_nodes.specs.Joined.{Values}
use Rattle.merkle_nodes.specs.Roots.{twig_of}
use Rattle.node_set.specs.Nodes.{with_node, with_nodes}
use Rattle.node_set.proofs.NodeMaps.{with_nodes-push}
use Rattle.proof_check.specs.Admission.{AllBelow, AllLater, Ascends}

pub below-push : (end : ℕ) (nodes : List Node) (node : Node) → AllBelow end nodes → node.index < end → AllBelow end (nodes ++ node ∷ [])
below-push end [] node below less = (less, tt)
below-push end (first ∷ nodes) node below less = (below.0, below-push end nodes node below.1 less)

pub below-pop : (end : ℕ) (nodes : List Node) (node : Node) → AllBelow end (nodes ++ node ∷ []) → AllBelow end nodes × (node.index < end)
below-pop end [] node below = (tt, below.0)
below-pop end (first ∷ nodes) node below = let rest = below-pop end nodes node below.1 in ((below.0, rest.0), rest.1)

pub below-higher : (low high : ℕ) (nodes : List Node) → low ≤ high → AllBelow low nodes → AllBelow high nodes
below-higher low high [] more below = tt
below-higher low high (first ∷ nodes) more below = (omega (arith, below.0, more), below-higher low high nodes more below.1)

above-push : (nodes : List Node) (first node : Node) → AllBelow node.index (first ∷ nodes)
    → AllLater first nodes → AllLater first (nodes ++ node ∷ [])
above-push [] first node below later = (below.0, tt)
above-push (next ∷ nodes) first node below later = (later.0, above-push nodes first node (below.0, below.1.1) later.1)

above-pop : (nodes : List Node) (first node : Node) → AllLater first (nodes ++ node ∷ []) → AllLater first nodes × (first.index < node.index)
above-pop [] first node later = (tt, later.0)
above-pop (next ∷ nodes) first node later = let rest = above-pop nodes first node later.1 in ((later.0, rest.0), rest.1)

-- a number above all others goes to the end
pub ascends-push : (nodes : List Node) (node : Node) → Ascends nodes → AllBelow node.index nodes → Ascends (nodes ++ node ∷ [])
ascends-push [] node order below = (tt, tt)
ascends-push (first ∷ nodes) node order below = (above-push nodes first node below order.0, ascends-push nodes node order.1 below.1)

pub ascends-pop : (nodes : List Node) (node : Node) → Ascends (nodes ++ node ∷ []) → Ascends nodes × AllBelow node.index nodes
ascends-pop [] node order = (tt, tt)
ascends-pop (first ∷ nodes) node order =
    let later = above-pop nodes first node order.0 in
    let rest = ascends-pop nodes node order.1 in
    ((later.0, rest.0), (later.1, rest.1))

-- ---- what is put in

-- instead of one of its number
pub put_instead : (value : Values) (rest : List Node) (last node : Node) (d o : ℕ) → last.index ≡ node.index
    → with_nodes value (rest ++ node ∷ []) d o ≡ with_node (with_nodes value (rest ++ last ∷ [])) node d o
put_instead value rest last node d o same = elim (cases_eq node.index (number d o)) [
  | inl here ↦ rw (with_nodes-push rest value node, eq-eqb node.index (number d o) here) refl
  | inr other ↦
      let apart = ne_eqb node.index (number d o) other in
      let last_apart : nat_eq last.index (number d o) ≡ false = rw same apart in
      rw (with_nodes-push rest value node, with_nodes-push rest value last, apart, last_apart) refl
]

-- before the last one
pub put_before : (value : Values) (rest more : List Node) (last node : Node) (d o : ℕ) → node.index < last.index
    → with_nodes value more d o ≡ with_node (with_nodes value rest) node d o
    → with_nodes value (more ++ last ∷ []) d o ≡ with_node (with_nodes value (rest ++ last ∷ [])) node d o
put_before value rest more last node d o less is = elim (cases_eq node.index (number d o)) [
  | inl here ↦
      let apart = ne_eqb last.index (number d o) (λ same. omega (arith, same, here, less)) in
      let mine = eq-eqb node.index (number d o) here in
      let found : with_nodes value more d o ≡ Some (twig_of node) = is ∙ rw mine refl in
      rw (with_nodes-push more value last, with_nodes-push rest value last, apart, mine) found
  | inr other ↦
      let apart = ne_eqb node.index (number d o) other in
      let kept : with_nodes value more d o ≡ with_nodes value rest d o = is ∙ rw apart refl in
      rw (with_nodes-push more value last, with_nodes-push rest value last, apart) (ap (λ own. if nat_eq last.index (number d o) then Some (twig_of last) else own) kept)
]
