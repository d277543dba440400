-- Values of nodes, and what a list of nodes puts in.
use Rattle.std.proofs.Common.{◌≡◌, ◌≢◌, ℕ, Some, List, [], ◌∷◌, ◌++◌, length, take, get_or, ◌+◌, ◌<◌, refl, sym, ap, ◌∙◌}
use Rattle.std.proofs.lemmas.List.{take_more}
use Rattle.std.specs.List.{AllByRecursion}
use Rattle.std.proofs.lemmas.Bool.{eq-eqb, ne_eqb}
use Rattle.flat_tree.specs.Subtrees.{number}
use Rattle.merkle_nodes.specs.declared.node.Node.{Node}
use Rattle.merkle_nodes.specs.Roots.{twig_of}
use Rattle.merkle_nodes.specs.Joined.{Values}
use Rattle.node_set.specs.Nodes.{with_node, with_nodes}

-- one more at the end is put in last
pub with_nodes-push : (nodes : List Node) (value : Values) (node : Node) → with_nodes value (nodes ++ node ∷ []) ≡ with_node (with_nodes value nodes) node
unfolding with_nodes
with_nodes-push [] value node = refl
with_nodes-push (first ∷ nodes) value node = with_nodes-push nodes (with_node value first) node

pub with_nodes-next : (nodes : List Node) (start now new : Values) (at : ℕ) (blank : Node) → at < length nodes
    → now ≡ with_nodes start (take at nodes) → new ≡ with_node now (get_or nodes at blank) → new ≡ with_nodes start (take (at + 1) nodes)
with_nodes-next nodes start now new at blank within so_far is =
    is
    ∙ ap (λ (value : Values). with_node value (get_or nodes at blank)) so_far
    ∙ sym (with_nodes-push (take at nodes) start (get_or nodes at blank))
    ∙ ap (with_nodes start) (sym (take_more nodes at blank within))

-- ---- what a list of nodes puts in: the last node of a number counts, and where there is none the value stays

pub with_nodes-other : (nodes : List Node) (value : Values) (depth offset : ℕ) → AllByRecursion (λ (node : Node). node.index ≢ number depth offset) nodes
    → with_nodes value nodes depth offset ≡ value depth offset
unfolding with_nodes
with_nodes-other [] value depth offset none = refl
with_nodes-other (node ∷ nodes) value depth offset none =
    with_nodes-other nodes (with_node value node) depth offset none.1 ∙ rw (ne_eqb node.index (number depth offset) none.0) refl

pub with_nodes-last : (front back : List Node) (node : Node) (value : Values) (depth offset : ℕ) → node.index ≡ number depth offset
    → AllByRecursion (λ (node : Node). node.index ≢ number depth offset) back → with_nodes value (front ++ node ∷ back) depth offset ≡ Some (twig_of node)
unfolding with_nodes
with_nodes-last [] back node value depth offset is none =
    with_nodes-other back (with_node value node) depth offset none ∙ rw (eq-eqb node.index (number depth offset) is) refl
with_nodes-last (first ∷ front) back node value depth offset is none = with_nodes-last front back node (with_node value first) depth offset is none
