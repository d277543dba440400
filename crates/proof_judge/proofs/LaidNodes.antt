-- The nodes that an upgrade makes, in the order of their numbers.
use Rattle.std.proofs.Common.{◌≡◌, ℕ, suc, Bool, true, ◌≤◌, inl, inr, List, [], ◌∷◌, map, nat_eq, refl, sym, ap, ◌∙◌, arith}
use Rattle.std.specs.Prelude.{◌||◌}
use Rattle.std.specs.List.{Contains}
use Rattle.std.specs.List.Sorted.{IsPermutation, IsNonDecreasingBy}
use Rattle.std.proofs.lemmas.Bool.{cases_Bool, cases_eq, ne_eqb, eqb-true}
use Rattle.std.proofs.lemmas.List.Sorted.{IsPermutation-sym, IsPermutation-map, Contains-permutation, list_any-IsPermutation, sum_by-IsPermutation}
use Rattle.flat_tree.specs.Subtrees.{Subtree, subtree, number, numbers_of}
use Rattle.flat_tree.specs.Roots.{full_roots_of}
use Rattle.flat_tree.specs.Covers.{cover_of}
use Rattle.flat_tree.specs.declared.limits.TheConstants.{MAX_BLOCKS}
use Rattle.flat_tree.proofs.CoverLemmas.{tile-cover}
use Rattle.merkle_nodes.specs.declared.node.Node.{Node}
use Rattle.merkle_nodes.specs.Joined.{Values}
use Rattle.merkle_nodes.specs.Nodes.{AreNodes}
use Rattle.node_set.proofs.CoverLemmas.{all_at}
use Rattle.log_view.specs.Overlays.{has_number}
use Rattle.log_change.proofs.InOrder.{one_if, many, once_ascend}
use Rattle.log_change.proofs.Named.{number_of, is_among, HasValue, numbers_are, values_are, same_subtree, get_among}
use Rattle.root_stack.specs.Made.{made_by}
use Rattle.root_stack.proofs.BecomesFull.{made-tiling}
use Rattle.root_stack.proofs.CoverParts.{made-cover}
use Rattle.proof_form.specs.declared.proof.UpgradePart.{UpgradePart}
use Rattle.proof_judge.specs.Laying.{AreLaid, joined_with}
use Rattle.proof_judge.proofs.MadeOnce.{made_once}

-- ---- numbers of nodes, and of subtrees

number_among : (nodes : List Node) (k : ℕ) → has_number nodes k ≡ is_among (map number_of nodes) k
number_among [] k = refl
number_among (node ∷ nodes) k = ap (λ (b : Bool). nat_eq node.index k || b) (number_among nodes k)

among_contains : (trees : List Subtree) (d o : ℕ) → is_among (numbers_of trees) (number d o) ≡ true → Contains trees (subtree d o)
among_contains [] d o test = cc
among_contains (tree ∷ trees) d o test = elim (cases_eq (number tree.depth tree.offset) (number d o)) [
  | inl here ↦
      let same = same_subtree tree.depth tree.offset d o here in
      (0, omega arith, ap (λ (k : ℕ). subtree k tree.offset) same.0 ∙ ap (subtree d) same.1)
  | inr other ↦
      let rest : is_among (numbers_of trees) (number d o) ≡ true =
      ap (λ (b : Bool). b || is_among (numbers_of trees) (number d o)) (sym (ne_eqb (number tree.depth tree.offset) (number d o) other)) ∙ test in
      let there = among_contains trees d o rest in
      (suc there.0, omega (arith, there.1), there.2)
]

-- a number that a list has is one of its nodes'
pub number_found : (nodes : List Node) (k : ℕ) → has_number nodes k ≡ true → (node : Node) × Contains nodes node × (node.index ≡ k)
number_found [] k test = cc
number_found (node ∷ nodes) k test = elim (cases_Bool (nat_eq node.index k)) [
  | inl here ↦ (node, (0, omega arith, refl), eqb-true node.index k here)
  | inr other ↦
      let found = number_found nodes k (ap (λ (b : Bool). b || has_number nodes k) (sym other) ∙ test) in
      (found.0, (suc found.1.0, omega (arith, found.1.1), found.1.2), found.2)
]

-- ---- what is made, in order

module _ (u : UpgradePart) (before made nodes : List Node) (ordered : u.start ≤ u.length) (few : u.length ≤ MAX_BLOCKS)
    (some : (known : Values) × AreNodes known (full_roots_of u.start) before)
    (joins : (known : Values) → AreNodes known (full_roots_of u.start) before → AreNodes (joined_with u known) (made_by (cover_of u.start u.length)) made)
    (moved : IsPermutation made nodes) where
  abbrev trees : List Subtree
  trees = made_by (cover_of u.start u.length)

  numbered : map number_of made ≡ numbers_of trees
  numbered = numbers_are (joined_with u some.0) trees made (joins some.0 some.1)

  in_order : IsNonDecreasingBy number_of nodes → (k : ℕ) → many k (map number_of nodes) ≤ 1
  in_order sorted k =
      let same = sum_by-IsPermutation (one_if k) (map number_of made) (map number_of nodes) (IsPermutation-map number_of made nodes moved) in
      omega (arith, same, ap (many k) numbered, made_once k u.start u.length ordered few)

  numbers_same : (d o : ℕ) → has_number nodes (number d o) ≡ is_among (numbers_of trees) (number d o)
  numbers_same d o =
      sym (list_any-IsPermutation (λ (node : Node). nat_eq node.index (number d o)) made nodes moved)
      ∙ number_among made (number d o) ∙ ap (λ (ns : List ℕ). is_among ns (number d o)) numbered

  pub laid_nodes : IsNonDecreasingBy number_of nodes → AreLaid before u nodes
  laid_nodes sorted = record {
    order = once_ascend nodes sorted (in_order sorted);
    which = λ d o. (
      λ has. made-cover u.start u.length d o few (among_contains trees d o (sym (numbers_same d o) ∙ has)),
      λ is.
          let there = made-tiling (cover_of u.start u.length) u.start u.length d o (tile-cover u.start u.length ordered) few is in
          numbers_same d o ∙ get_among trees there.0 d o there.1 there.2,
    );
    values = λ known are d o node there is.
        let has = values_are (joined_with u known) trees made (joins known are) in
        all_at (HasValue (joined_with u known)) made node has (Contains-permutation nodes made node (IsPermutation-sym made nodes moved) there) d o is;
  }
