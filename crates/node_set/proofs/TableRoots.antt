-- Roots looked up one after the other.
use Rattle.std.proofs.Common.{◌≡◌, ℕ, true, ◌+◌, ◌<◌, ◌≤◌, List, [], ◌∷◌, ◌++◌, length, take, map, get_or, slice_get, option_map, Some, refl, sym, ap, subst, ◌∙◌, arith}
use Rattle.std.specs.Prelude.{Option, is_some}
use Rattle.std.specs.List.{AllByRecursion}
use Rattle.std.proofs.lemmas.List.{map_push, take_more}
use Rattle.std.proofs.lemmas.Option.{slice_get-map, slice_get-get_or}
use Rattle.flat_tree.specs.Subtrees.{Subtree, number, numbers_of}
use Rattle.flat_tree.specs.Roots.{full_roots_of}
use Rattle.flat_tree.specs.declared.limits.TheConstants.{MAX_CORE_BYTES}
use Rattle.merkle_nodes.specs.declared.node.Node.{Node}
use Rattle.merkle_nodes.specs.declared.node.Twig.{Twig}
use Rattle.merkle_nodes.specs.Roots.{twig_of, node_of}
use Rattle.node_set.specs.Contents.{Values, node_at}
use Rattle.flat_tree.proofs.RootLemmas.{length-numbers}
use Rattle.node_set.proofs.AppendLemmas.{all_push}
use Rattle.node_set.proofs.RootTruth.{twig_at-some}

-- the nodes are there for these subtrees, and are these
pub record IsRootsOf (value : Values) (trees : List Subtree) (roots : List Node) : Type 0 where
  pub nodes : roots ≡ map (λ (tree : Subtree). node_at value tree.depth tree.offset) trees
  pub sizes : AllByRecursion (λ (node : Node). node.size ≤ MAX_CORE_BYTES) roots
  pub stored : AllByRecursion (λ (tree : Subtree). is_some (value tree.depth tree.offset) ≡ true) trees

-- the subtree at a place has the number there
pub tree_there : (trees : List Subtree) (places : List ℕ) (at index : ℕ) (blank : Subtree) → places ≡ numbers_of trees → at < length trees
    → slice_get places at ≡ Some index → number (get_or trees at blank).depth (get_or trees at blank).offset ≡ index
tree_there trees places at index blank is within there =
    let of_tree = λ (tree : Subtree). number tree.depth tree.offset in
    let tree = get_or trees at blank in
    let of_numbers = slice_get-map of_tree trees at ∙ ap (λ (o : Option Subtree). option_map of_tree o) (slice_get-get_or trees at blank within) in
    let found : Some (of_tree tree) ≡ Some index = sym of_numbers ∙ sym (ap (λ (xs : List ℕ). slice_get xs at) is) ∙ there in
    cc

-- the subtree that roots are read at past their end
abbrev blank_tree : Subtree
blank_tree = record { depth = 0; offset = 0 }

-- the full root at a place
abbrev pub root_tree : ℕ → ℕ → Subtree
root_tree n at = get_or (full_roots_of n) at blank_tree

-- the full roots' numbers stand in these places, one of which is read
module _ (n : ℕ) (places : List ℕ) (count at index : ℕ) (numbers : places ≡ numbers_of (full_roots_of n)) (all : count ≡ length places) (within : at < count)
    (there : slice_get places at ≡ Some index) where
  inside : at < length (full_roots_of n)
  inside = omega (arith, within, all, length-numbers places (full_roots_of n) numbers)

  pub root_number : number (root_tree n at).depth (root_tree n at).offset ≡ index
  root_number = tree_there (full_roots_of n) places at index blank_tree numbers inside there

  -- one root more
  pub roots_next : (value : Values) (roots more : List Node) (node : Node) → IsRootsOf value (take at (full_roots_of n)) roots → more ≡ roots ++ node ∷ []
      → ((depth offset : ℕ) → number depth offset ≡ index → value depth offset ≡ Some (twig_of node)) → node.index ≡ index
      → node.size ≤ MAX_CORE_BYTES → IsRootsOf value (take (at + 1) (full_roots_of n)) more
  roots_next value roots more node so_far pushed found numbered size =
      let tree = root_tree n at in
      let stored = found tree.depth tree.offset root_number in
      let trees = full_roots_of n in
      let of_tree = λ (tree : Subtree). node_at value tree.depth tree.offset in
      let is : node ≡ of_tree tree = ap (λ (i : ℕ). record { index = i; size = node.size; hash = node.hash }) (numbered ∙ sym root_number)
      ∙ ap (λ (twig : Twig). node_of tree.depth tree.offset twig) (sym (twig_at-some value tree.depth tree.offset (twig_of node) stored)) in
      let taken = take_more trees at blank_tree inside in
      let nodes : roots ++ node ∷ [] ≡ map of_tree (take (at + 1) trees) =
      ap (λ (ns : List Node). ns ++ node ∷ []) so_far.nodes
      ∙ ap (λ (x : Node). map of_tree (take at trees) ++ x ∷ []) is
      ∙ sym (map_push of_tree (take at trees) tree)
      ∙ ap (map of_tree) (sym taken) in
      let small = λ (node : Node). node.size ≤ MAX_CORE_BYTES in
      let stored_at = λ (tree : Subtree). is_some (value tree.depth tree.offset) ≡ true in
      record {
        nodes = pushed ∙ nodes;
        sizes = subst (AllByRecursion small) (sym pushed) (all_push small roots node so_far.sizes size);
        stored = subst (AllByRecursion stored_at) (sym taken) (all_push stored_at (take at trees) tree so_far.stored (ap is_some stored));
      }
