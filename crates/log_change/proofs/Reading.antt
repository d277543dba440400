-- The full roots of a length, looked at and read one after the other.
use Rattle.std.proofs.Common.{◌≡◌, ℕ, zero, suc, Bool, true, false, ◌+◌, ◌<◌, ◌≤◌, IsTrue, List, [], ◌∷◌, ◌++◌, length, take, drop, map, get_or, slice_get, Some, None, refl, sym, ap, subst, ◌∙◌, arith, add-one, drop-cons, inl, inr}
use Rattle.std.specs.Prelude.{Option}
use Rattle.std.specs.List.{AllByRecursion}
use Rattle.std.proofs.lemmas.Bool.{cases_Bool}
use Rattle.std.proofs.lemmas.List.{map_push, take_more, drop_all}
use Rattle.flat_tree.specs.Subtrees.{Subtree, number, numbers_of}
use Rattle.flat_tree.specs.Roots.{full_roots_of}
use Rattle.flat_tree.specs.declared.limits.TheConstants.{MAX_CORE_BYTES}
use Rattle.flat_tree.proofs.RootLemmas.{length-numbers}
use Rattle.merkle_nodes.specs.declared.node.Node.{Node}
use Rattle.merkle_nodes.specs.Nodes.{node_in}
use Rattle.merkle_nodes.specs.Roots.{twig_of}
use Rattle.merkle_nodes.proofs.JoinedValues.{node_in-is}
use Rattle.node_set.specs.declared.fault.CoreFault.TheVariants.{NoNode}
use Rattle.node_set.proofs.AppendLemmas.{all_push}
use Rattle.node_set.proofs.TableRoots.{root_tree, root_number}
use Rattle.core_forks.specs.Refusals.{first_missing}
use Rattle.log_view.specs.Views.{Source, GivesNode}
use Rattle.log_change.specs.Calls.{AreGiven}
use Rattle.log_change.proofs.Named.{same_subtree}

-- where none is missing each is stored
none_missing : (is_stored : ℕ → ℕ → Bool) (trees : List Subtree) (k : ℕ) (d : Subtree) → k < length trees → first_missing is_stored trees ≡ None
    → is_stored (get_or trees k d).depth (get_or trees k d).offset ≡ true
unfolding first_missing
none_missing is_stored [] k d less none = absurd (omega (arith, less))
none_missing is_stored (tree ∷ trees) zero d less none = elim (cases_Bool (is_stored tree.depth tree.offset)) [
  | inl here ↦ here
  | inr missing ↦
      let first : first_missing is_stored (tree ∷ trees) ≡ Some (NoNode (number tree.depth tree.offset)) = rw missing refl in
      let clash : Some (NoNode (number tree.depth tree.offset)) ≡ None = sym first ∙ none in cc
]
none_missing is_stored (tree ∷ trees) (suc k) d less none = elim (cases_Bool (is_stored tree.depth tree.offset)) [
  | inl here ↦
      let first : first_missing is_stored (tree ∷ trees) ≡ first_missing is_stored trees = rw here refl in
      none_missing is_stored trees k d (omega (arith, less)) (sym first ∙ none)
  | inr missing ↦
      let first : first_missing is_stored (tree ∷ trees) ≡ Some (NoNode (number tree.depth tree.offset)) = rw missing refl in
      let clash : Some (NoNode (number tree.depth tree.offset)) ≡ None = sym first ∙ none in cc
]

-- the full roots' numbers stand in a list, one of which is looked at
module _ (n : ℕ) (listed : List ℕ) (count at index : ℕ) (numbers : listed ≡ numbers_of (full_roots_of n)) (all : count ≡ length listed) (within : at < count)
    (there : slice_get listed at ≡ Some index) where
  inside : at < length (full_roots_of n)
  inside = omega (arith, within, all, length-numbers listed (full_roots_of n) numbers)

  rest : drop at (full_roots_of n) ≡ root_tree n at ∷ drop (suc at) (full_roots_of n)
  rest = drop-cons (full_roots_of n) at _ inside

  numbered : number (root_tree n at).depth (root_tree n at).offset ≡ index
  numbered = root_number n listed count at index numbers all within there

  -- it isn't stored
  pub missing_here : (is_stored : ℕ → ℕ → Bool) → first_missing is_stored (drop at (full_roots_of n)) ≡ first_missing is_stored (full_roots_of n)
      → ((d o : ℕ) → number d o ≡ index → false ≡ is_stored d o) → first_missing is_stored (full_roots_of n) ≡ Some (NoNode index)
  unfolding first_missing
  missing_here is_stored so_far none =
      let here = none (root_tree n at).depth (root_tree n at).offset numbered in
      let first : first_missing is_stored (root_tree n at ∷ drop (suc at) (full_roots_of n)) ≡ Some (NoNode (number (root_tree n at).depth (root_tree n at).offset)) =
      rw (sym here) refl in
      sym so_far ∙ ap (first_missing is_stored) rest ∙ first ∙ ap (λ (i : ℕ). Some (NoNode i)) numbered

  -- it is
  pub missing_next : (is_stored : ℕ → ℕ → Bool) → first_missing is_stored (drop at (full_roots_of n)) ≡ first_missing is_stored (full_roots_of n)
      → ((d o : ℕ) → number d o ≡ index → true ≡ is_stored d o)
      → first_missing is_stored (drop (at + 1) (full_roots_of n)) ≡ first_missing is_stored (full_roots_of n)
  unfolding first_missing
  missing_next is_stored so_far stored =
      let here = stored (root_tree n at).depth (root_tree n at).offset numbered in
      let first : first_missing is_stored (root_tree n at ∷ drop (suc at) (full_roots_of n)) ≡ first_missing is_stored (drop (suc at) (full_roots_of n)) = rw (sym here) refl in
      ap (λ (k : ℕ). first_missing is_stored (drop k (full_roots_of n))) (add-one at) ∙ sym first ∙ ap (first_missing is_stored) (sym rest) ∙ so_far

  -- it is, where none is missing
  pub stored_here : (is_stored : ℕ → ℕ → Bool) → first_missing is_stored (full_roots_of n) ≡ None → (d o : ℕ) → number d o ≡ index → is_stored d o ≡ true
  stored_here is_stored none d o is =
      let same = same_subtree (root_tree n at).depth (root_tree n at).offset d o (numbered ∙ sym is) in
      sym (ap (λ (k : ℕ). is_stored k (root_tree n at).offset) same.0 ∙ ap (is_stored d) same.1)
      ∙ none_missing is_stored (full_roots_of n) at _ inside none

  -- it is read
  pub given_more : (s : Source) (nodes more : List Node) (node : Node) → AreGiven s (take at (full_roots_of n)) nodes → more ≡ nodes ++ node ∷ [] → GivesNode s index node
      → AreGiven s (take (at + 1) (full_roots_of n)) more
  given_more s nodes more node so_far pushed gives =
      let trees = full_roots_of n in
      let tree = root_tree n at in
      let taken = take_more trees at _ inside in
      let own = gives.numbered ∙ sym numbered in
      let given_at = λ (node : Node). s.gives node.index (twig_of node) ≡ true in
      let small = λ (node : Node). node.size ≤ MAX_CORE_BYTES in
      subst (AreGiven s (take (at + 1) trees)) (sym pushed) (record {
        numbered = map_push (λ (node : Node). node.index) nodes node
            ∙ ap (λ (l : List ℕ). l ++ node.index ∷ []) so_far.numbered
            ∙ ap (λ (i : ℕ). numbers_of (take at trees) ++ i ∷ []) own
            ∙ sym (map_push (λ (tree : Subtree). number tree.depth tree.offset) (take at trees) tree)
            ∙ ap numbers_of (sym taken);
        given = all_push given_at nodes node so_far.given (ap (λ (i : ℕ). s.gives i (twig_of node)) gives.numbered ∙ gives.given);
        sizes = all_push small nodes node so_far.sizes gives.size;
        shown = λ shows.
            let value = s.content.node in
            let here = node_in-is value tree.depth tree.offset node own (gives.shown shows tree.depth tree.offset numbered) in
            map_push Some nodes node
            ∙ ap (λ (l : List (Option Node)). l ++ Some node ∷ []) (so_far.shown shows)
            ∙ ap (λ (x : Option Node). map (node_in value) (take at trees) ++ x ∷ []) (sym here)
            ∙ sym (map_push (node_in value) (take at trees) tree)
            ∙ ap (map (node_in value)) (sym taken);
      })

-- all of them were looked at
pub missing_done : (n at : ℕ) (is_stored : ℕ → ℕ → Bool) → length (full_roots_of n) ≤ at
    → first_missing is_stored (drop at (full_roots_of n)) ≡ first_missing is_stored (full_roots_of n) → first_missing is_stored (full_roots_of n) ≡ None
unfolding first_missing
missing_done n at is_stored end so_far = sym so_far ∙ ap (first_missing is_stored) (drop_all at (full_roots_of n) end)
