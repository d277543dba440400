-- The roots of a shorter log, read one after the other, and those of them that weren't roots before.
use Rattle.std.proofs.Common.{◌≡◌, ℕ, suc, Bool, true, false, ◌+◌, ◌<◌, ◌≤◌, IsTrue, List, [], ◌∷◌, ◌++◌, length, take, drop, map, slice_get, Some, None, refl, sym, ap, subst, ◌∙◌, arith, add-one, drop-cons, length-append}
use Rattle.std.specs.Prelude.{Option, not}
use Rattle.std.specs.List.{AllByRecursion, list_any}
use Rattle.std.proofs.lemmas.List.{map_push, take_more, take_all, drop_all}
use Rattle.std.proofs.lemmas.List.Elements.{filter-append}
use Rattle.flat_tree.specs.Subtrees.{Subtree, number, numbers_of}
use Rattle.flat_tree.specs.Roots.{full_roots_of}
use Rattle.flat_tree.specs.declared.limits.TheConstants.{MAX_CORE_BYTES}
use Rattle.flat_tree.proofs.RootLemmas.{length-numbers}
use Rattle.merkle_nodes.specs.declared.node.Node.{Node}
use Rattle.merkle_nodes.specs.declared.node.Twig.{Twig}
use Rattle.merkle_nodes.specs.Roots.{twig_of, node_of}
use Rattle.node_set.specs.declared.fault.CoreFault.TheVariants.{NoNode}
use Rattle.node_set.specs.Contents.{node_at}
use Rattle.node_set.specs.Views.{ViewState, GivesNode}
use Rattle.node_set.proofs.RootTruth.{twig_at-some}
use Rattle.node_set.proofs.TableRoots.{root_tree, root_number}
use Rattle.core_forks.specs.Refusals.{first_missing}
use Rattle.core_forks.specs.Truncations.{is_same_node, fresh_roots, AreRoots}

-- what holds of each holds of one more
all_push : {X : Type 0} (P : X → Type 0) (xs : List X) (x : X) → AllByRecursion P xs → P x → AllByRecursion P (xs ++ x ∷ [])
all_push P [] x all here = (here, tt)
all_push P (y ∷ xs) x all here = (all.0, all_push P xs x all.1 here)

-- what a view gave, under its name
pub given_as : (v : ViewState) (index : ℕ) (found name : Option Node) → found ≡ name → GivesNode v index found → GivesNode v index name
given_as v index found name same gives = subst (GivesNode v index) same gives

-- so many of the subtrees were looked at: each is stored, and these are their nodes
pub record HasRead (v : ViewState) (is_stored : ℕ → ℕ → Bool) (trees : List Subtree) (place : ℕ) (nodes : List Node) : Type 0 where
  pub left : first_missing is_stored (drop place trees) ≡ first_missing is_stored trees
  pub count : length nodes ≡ place
  pub shape : map (λ (node : Node). node.index) nodes ≡ numbers_of (take place trees)
  pub sizes : AllByRecursion (λ (node : Node). node.size ≤ MAX_CORE_BYTES) nodes
  pub stored : IsTrue v.stands → nodes ≡ map (λ (tree : Subtree). node_at v.content.node tree.depth tree.offset) (take place trees)

-- the full roots' numbers stand in these places, one of which is read
module _ (n : ℕ) (places : List ℕ) (count at index : ℕ) (numbers : places ≡ numbers_of (full_roots_of n)) (all : count ≡ length places) (within : at < count)
    (there : slice_get places at ≡ Some index) (v : ViewState) (is_stored : ℕ → ℕ → Bool) where
  inside : at < length (full_roots_of n)
  inside = omega (arith, within, all, length-numbers places (full_roots_of n) numbers)

  rest : drop at (full_roots_of n) ≡ root_tree n at ∷ drop (suc at) (full_roots_of n)
  rest = drop-cons (full_roots_of n) at _ inside

  numbered : number (root_tree n at).depth (root_tree n at).offset ≡ index
  numbered = root_number n places count at index numbers all within there

  -- it isn't stored
  pub missing_here : (nodes : List Node) → HasRead v is_stored (full_roots_of n) at nodes
      → ((depth offset : ℕ) → number depth offset ≡ index → false ≡ is_stored depth offset) → first_missing is_stored (full_roots_of n) ≡ Some (NoNode index)
  unfolding first_missing
  missing_here nodes so_far none =
      let here = none (root_tree n at).depth (root_tree n at).offset numbered in
      let first : first_missing is_stored (root_tree n at ∷ drop (suc at) (full_roots_of n)) ≡ Some (NoNode (number (root_tree n at).depth (root_tree n at).offset)) =
      rw (sym here) refl in
      sym so_far.left ∙ ap (first_missing is_stored) rest ∙ first ∙ ap (λ (i : ℕ). Some (NoNode i)) numbered

  -- it is stored
  pub HasRead-more : (nodes more : List Node) (node : Node) → HasRead v is_stored (full_roots_of n) at nodes → more ≡ nodes ++ node ∷ []
      → ((depth offset : ℕ) → number depth offset ≡ index → true ≡ is_stored depth offset)
      → (IsTrue v.stands → (depth offset : ℕ) → number depth offset ≡ index → Some (twig_of node) ≡ v.content.node depth offset)
      → node.index ≡ index → node.size ≤ MAX_CORE_BYTES → HasRead v is_stored (full_roots_of n) (at + 1) more
  unfolding first_missing
  HasRead-more nodes more node so_far pushed stored given is size =
      let trees = full_roots_of n in
      let tree = root_tree n at in
      let here = stored tree.depth tree.offset numbered in
      let first : first_missing is_stored (tree ∷ drop (suc at) trees) ≡ first_missing is_stored (drop (suc at) trees) = rw (sym here) refl in
      let taken = take_more trees at _ inside in
      let small = λ (node : Node). node.size ≤ MAX_CORE_BYTES in
      let index_of = λ (node : Node). node.index in
      let number_of = λ (tree : Subtree). number tree.depth tree.offset in
      let of_tree = λ (tree : Subtree). node_at v.content.node tree.depth tree.offset in
      record {
        left = ap (λ (k : ℕ). first_missing is_stored (drop k trees)) (add-one at) ∙ sym first ∙ ap (first_missing is_stored) (sym rest) ∙ so_far.left;
        count = ap length pushed ∙ length-append nodes (node ∷ []) ∙ omega (arith, so_far.count);
        shape = ap (map index_of) pushed
            ∙ map_push index_of nodes node
            ∙ ap (λ (l : List ℕ). l ++ node.index ∷ []) so_far.shape
            ∙ ap (λ (i : ℕ). numbers_of (take at trees) ++ i ∷ []) (is ∙ sym numbered)
            ∙ sym (map_push number_of (take at trees) tree)
            ∙ ap numbers_of (sym taken);
        sizes = subst (AllByRecursion small) (sym pushed) (all_push small nodes node so_far.sizes size);
        stored = λ stands.
            let own : node ≡ of_tree tree = ap (λ (i : ℕ). record { index = i; size = node.size; hash = node.hash }) (is ∙ sym numbered)
            ∙ ap (λ (twig : Twig). node_of tree.depth tree.offset twig)
            (sym (twig_at-some v.content.node tree.depth tree.offset (twig_of node) (sym (given stands tree.depth tree.offset numbered)))) in
            pushed
            ∙ ap (λ (l : List Node). l ++ node ∷ []) (so_far.stored stands)
            ∙ ap (λ (x : Node). map of_tree (take at trees) ++ x ∷ []) own
            ∙ sym (map_push of_tree (take at trees) tree)
            ∙ ap (map of_tree) (sym taken);
      }

-- all of them were
pub HasRead-done : (v : ViewState) (is_stored : ℕ → ℕ → Bool) (n place : ℕ) (nodes : List Node) → length (full_roots_of n) ≤ place
    → HasRead v is_stored (full_roots_of n) place nodes → (first_missing is_stored (full_roots_of n) ≡ None) × AreRoots v n nodes
unfolding first_missing
HasRead-done v is_stored n place nodes end so_far =
    let trees = full_roots_of n in
    let all : take place trees ≡ trees = take_all place trees end in
    let of_tree = λ (tree : Subtree). node_at v.content.node tree.depth tree.offset in (
      sym so_far.left ∙ ap (first_missing is_stored) (drop_all place trees end),
      record {
        shape = so_far.shape ∙ ap numbers_of all;
        sizes = so_far.sizes;
        stored = λ stands. so_far.stored stands ∙ ap (map of_tree) all;
      },
    )
