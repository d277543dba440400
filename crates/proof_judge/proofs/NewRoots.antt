-- The roots of a whole log are the twigs that came: values beside its full roots.
use Rattle.std.proofs.Common.{◌≡◌, ℕ, zero, suc, true, false, inl, inr, List, [], ◌∷◌, map, length, Some, None, refl, sym, ap, subst, ◌∙◌, ◌/◌, arith, nat_eq}
use Rattle.std.specs.Prelude.{◌&&◌}
use Rattle.std.specs.List.{Contains}
use mathlib.Core.Path.{fun_ext}
use Rattle.std.proofs.lemmas.Bool.{cases_Bool, lt-leb, eqb-true, eq-eqb, and_parts, and_from}
use Rattle.std.proofs.lemmas.List.Sums.{sum_by-cons}
use Rattle.flat_tree.specs.Subtrees.{Subtree, subtree, end_block_of}
use Rattle.flat_tree.specs.Roots.{full_roots_of}
use Rattle.flat_tree.specs.Covers.{cover_of}
use Rattle.flat_tree.proofs.CoverLemmas.{tile-cover, cover-full}
use Rattle.merkle_nodes.specs.declared.node.Node.{Node}
use Rattle.merkle_nodes.specs.declared.node.Twig.{Twig}
use Rattle.merkle_nodes.specs.Joined.{Values, joined, value_in, with_parts}
use Rattle.merkle_nodes.specs.Nodes.{AreNodes}
use Rattle.merkle_nodes.specs.Roots.{twig_of}
use Rattle.node_set.specs.Contents.{node_at, twig_at, bytes_under}
use Rattle.node_set.specs.Closure.{IsFullRoot}
use Rattle.node_set.proofs.ClosureLemmas.{span_some}
use Rattle.node_set.proofs.CoverLemmas.{between_true, not_between, cover_has}
use Rattle.node_set.proofs.RootTruth.{twig_at-some}
use Rattle.log_change.proofs.Named.{nodes_are}
use Rattle.root_stack.specs.Stack.{AreValues, twig_bytes}
use Rattle.root_stack.proofs.TwigValues.{joined-twigs}
use Rattle.proof_form.specs.declared.proof.UpgradePart.{UpgradePart}
use Rattle.proof_check.specs.Upgraded.{new_roots}
use Rattle.proof_judge.specs.Laying.{joined_with}

-- ---- twigs beside subtrees with their values

-- the nodes of subtrees with these values have so many bytes
pub bytes_at : (value : Values) (trees : List Subtree) (twigs : List Twig) → AreValues value trees twigs
    → bytes_under (map (λ (tree : Subtree). node_at value tree.depth tree.offset) trees) ≡ twig_bytes twigs
bytes_at value [] [] are = refl
bytes_at value [] (twig ∷ twigs) are = cc
bytes_at value (tree ∷ trees) [] are = cc
bytes_at value (tree ∷ trees) (twig ∷ twigs) are =
    let first : Some twig ≡ value tree.depth tree.offset = cc in
    let rest : map Some twigs ≡ map (λ (t : Subtree). value t.depth t.offset) trees = cc in
    let nodes = map (λ (t : Subtree). node_at value t.depth t.offset) trees in
    omega (
      arith,
      sum_by-cons (λ (node : Node). node.size) (node_at value tree.depth tree.offset) nodes,
      sum_by-cons (λ (t : Twig). t.size) twig twigs,
      ap (λ (t : Twig). t.size) (twig_at-some value tree.depth tree.offset twig (sym first)),
      bytes_at value trees twigs rest,
    )

-- the value beside a subtree is the subtree's
pub value_beside : (value : Values) (trees : List Subtree) (twigs : List Twig) (d o : ℕ) → AreValues value trees twigs → Contains trees (subtree d o)
    → value_in trees twigs d o ≡ value d o
unfolding value_in
value_beside value [] twigs d o are (at, less, is) = absurd (omega (arith, less))
value_beside value (tree ∷ trees) [] d o are there = cc
value_beside value (tree ∷ trees) (twig ∷ twigs) d o are there = elim (cases_Bool (nat_eq tree.depth d && nat_eq tree.offset o)) [
  | inl test ↦
      let first : Some twig ≡ value tree.depth tree.offset = cc in
      let parts = and_parts (nat_eq tree.depth d) (nat_eq tree.offset o) test in
      rw test (first ∙ ap (λ (k : ℕ). value k tree.offset) (eqb-true tree.depth d parts.0) ∙ ap (value d) (eqb-true tree.offset o parts.1))
  | inr test ↦
      let rest : map Some twigs ≡ map (λ (t : Subtree). value t.depth t.offset) trees = cc in
      rw test (value_beside value trees twigs d o rest (further there test))
]
  where
    further : Contains (tree ∷ trees) (subtree d o) → (nat_eq tree.depth d && nat_eq tree.offset o) ≡ false → Contains trees (subtree d o)
    further (zero, less, is) test =
        let same = and_from (nat_eq tree.depth d) (nat_eq tree.offset o) (eq-eqb tree.depth d (ap (λ (t : Subtree). t.depth) is)) (eq-eqb tree.offset o (ap (λ (t : Subtree). t.offset) is)) in
        let clash : true ≡ false = sym same ∙ test in
        cc
    further (suc at, less, is) test = (at, omega (arith, less), is)

-- ---- a whole log

-- a full root is among the full roots
pub root_contained : (n d o : ℕ) → IsFullRoot n d o → Contains (full_roots_of n) (subtree d o)
root_contained n d o root =
    subst (λ (trees : List Subtree). Contains trees (subtree d o)) (cover-full n)
    (cover_has 0 n d o (omega arith) (record {
      within = between_true 0 n d o (record { first = omega arith; last = root.within });
      largest = not_between 0 n (suc d) (o / 2) (λ between. omega (arith, between.last, root.largest));
    }))

-- the joined values of an upgrade from no block
abbrev pub whole_values : UpgradePart → Values
whole_values u = joined (value_in (cover_of 0 u.length) u.nodes)

pub joined_whole : (u : UpgradePart) (known : Values) → u.start ≡ 0 → joined_with u known ≡ whole_values u
joined_whole u known start =
    let parts : with_parts 0 known (cover_of 0 u.length) u.nodes ≡ value_in (cover_of 0 u.length) u.nodes =
    fun_ext (λ d. fun_ext (λ o. rw (lt-leb (end_block_of d o) 0 (omega (arith, span_some d o))) refl)) in
    ap (λ (from : ℕ). joined (with_parts from known (cover_of from u.length) u.nodes)) start ∙ ap joined parts

module _ (u : UpgradePart) (count : length u.nodes ≡ length (cover_of 0 u.length)) where
  pub whole_are : AreValues (whole_values u) (full_roots_of u.length) u.nodes
  whole_are =
      let tile = tile-cover 0 u.length (omega arith) in
      let none = λ (d o : ℕ). None in
      let own = (joined-twigs none 0 u.length (cover_of 0 u.length) u.nodes tile count).at_trees in
      own
      ∙ ap (λ (value : Values). map (λ (tree : Subtree). value tree.depth tree.offset) (cover_of 0 u.length))
      (ap joined (fun_ext (λ d. fun_ext (λ o. rw (lt-leb (end_block_of d o) 0 (omega (arith, span_some d o))) refl))))
      ∙ ap (map (λ (tree : Subtree). whole_values u tree.depth tree.offset)) (cover-full u.length)

-- nodes with these values are the new roots'
pub new_roots_of : (u : UpgradePart) (after : List Node) → AreNodes (whole_values u) (full_roots_of u.length) after → map twig_of after ≡ new_roots u
new_roots_of u after are = ap (map twig_of) (nodes_are (whole_values u) (full_roots_of u.length) after are) ∙ each (full_roots_of u.length)
  where
    each : (trees : List Subtree) → map twig_of (map (λ (tree : Subtree). node_at (whole_values u) tree.depth tree.offset) trees)
        ≡ map (λ (tree : Subtree). twig_at (whole_values u) tree.depth tree.offset) trees
    each [] = refl
    each (tree ∷ trees) = ap (λ (ts : List Twig). twig_at (whole_values u) tree.depth tree.offset ∷ ts) (each trees)
