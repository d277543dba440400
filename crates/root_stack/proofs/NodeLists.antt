-- Lists of nodes: the last one, how many there are, and their sizes.
use Rattle.std.proofs.Common.{◌≡◌, ℕ, ◌≤◌, List, [], ◌∷◌, ◌++◌, length, map, sym, ◌∙◌, ap, arith}
use Rattle.std.specs.List.{AllByRecursion}
use Rattle.std.proofs.lemmas.List.{map-append, same_from_push, length-map}
use Rattle.std.proofs.lemmas.List.Sums.{sum_by-cons}
use Rattle.flat_tree.specs.Subtrees.{Subtree, number}
use Rattle.flat_tree.specs.Roots.{full_roots_of}
use Rattle.flat_tree.specs.declared.limits.TheConstants.{MAX_CORE_BYTES}
use Rattle.merkle_nodes.specs.declared.node.Node.{Node}
use Rattle.merkle_nodes.specs.Roots.{HasShape}
use Rattle.merkle_nodes.specs.Nodes.{bytes_under}
use Rattle.root_stack.specs.Stack.{SizeFits}

-- what two lists agree on without their last elements, and on these, they agree on
module _ {X : Type 0} (f : Node → X) (g : Subtree → X) (trees : List Subtree) (tree : Subtree) (rest : List Node) (node : Node)
    {more : List Subtree} {nodes : List Node} (trees_are : more ≡ trees ++ tree ∷ []) (nodes_are : nodes ≡ rest ++ node ∷ []) where
  pub take_last : map f nodes ≡ map g more → (map f rest ≡ map g trees) × (f node ≡ g tree)
  take_last same =
      same_from_push (map f rest) (map g trees) (f node) (g tree)
      (sym (map-append f rest (node ∷ [])) ∙ ap (map f) (sym nodes_are) ∙ same ∙ ap (map g) trees_are ∙ map-append g trees (tree ∷ []))

  pub put_last : map f rest ≡ map g trees → f node ≡ g tree → map f nodes ≡ map g more
  put_last same last =
      ap (map f) nodes_are ∙ map-append f rest (node ∷ []) ∙ ap (λ (xs : List X). xs ++ f node ∷ []) same
      ∙ ap (λ (x : X). map g trees ++ x ∷ []) last ∙ sym (map-append g trees (tree ∷ [])) ∙ ap (map g) (sym trees_are)

-- roots of a shape are as many as its trees
pub many_roots : (blocks : ℕ) (roots : List Node) → HasShape roots blocks → length roots ≡ length (full_roots_of blocks)
many_roots blocks roots shape =
    sym (length-map roots (λ (n : Node). n.index)) ∙ ap length shape ∙ length-map (full_roots_of blocks) (λ (t : Subtree). number t.depth t.offset)

-- one node more that has no more bytes than a core
pub sizes_fit-push : (nodes : List Node) (node : Node) → AllByRecursion SizeFits nodes → SizeFits node → AllByRecursion SizeFits (nodes ++ node ∷ [])
sizes_fit-push [] node fits fit = (fit, tt)
sizes_fit-push (n ∷ nodes) node fits fit = (fits.0, sizes_fit-push nodes node fits.1 fit)

-- nodes that have no more together
pub sizes_fit : (nodes : List Node) → bytes_under nodes ≤ MAX_CORE_BYTES → AllByRecursion SizeFits nodes
sizes_fit [] few = tt
sizes_fit (node ∷ nodes) few =
    let all = sum_by-cons (λ (n : Node). n.size) node nodes in
    (omega (arith, few, all), sizes_fit nodes (omega (arith, few, all)))
