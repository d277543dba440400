-- The roots that weren't roots before are the nodes that come in where nothing else does: for a truncation, and for another
-- log. They ascend.
use Rattle.std.proofs.Common.{◌≡◌, ℕ, suc, Bool, true, false, ◌+◌, ◌*◌, ◌<◌, ◌≤◌, inl, inr, List, [], ◌∷◌, map, if◌then◌else◌, Option, Some, None, refl, sym, ap, ◌∙◌, arith}
use Rattle.std.specs.Prelude.{is_some, not, ◌&&◌, ◌||◌}
use Rattle.std.specs.List.{AllByRecursion, All, list_any}
use Rattle.std.proofs.Math.Bool.{and-true, and-false}
use Rattle.std.proofs.lemmas.Bool.{cases_Bool, cases_eq, eq-eqb, ne_eqb}
use Rattle.std.proofs.lemmas.List.Elements.{All-cons, All-nil}
use Rattle.std.proofs.lemmas.List.Kept.{AllPairs-cons, AllPairs-filter}
use Rattle.std.proofs.lemmas.Nat.{pow_pos}
use Rattle.std.proofs.lemmas.Option.{get_or_from_slice_get, slice_get_within}
use Rattle.flat_tree.specs.Subtrees.{Subtree, subtree, number, numbers_of, end_block_of, Tile}
use Rattle.flat_tree.specs.Roots.{full_roots_of}
use Rattle.flat_tree.proofs.NumberLemmas.{number_below, number_first, end_first}
use Rattle.flat_tree.proofs.RootLemmas.{tile-full}
use Rattle.merkle_nodes.specs.declared.node.Node.{Node}
use Rattle.merkle_nodes.specs.declared.node.Twig.{Twig}
use Rattle.merkle_nodes.specs.Joined.{Values}
use Rattle.merkle_nodes.specs.Roots.{twig_of}
use Rattle.node_set.specs.Contents.{Content, twig_at, node_at, roots}
use Rattle.node_set.specs.Closure.{is_root, IsFullRoot}
use Rattle.node_set.specs.Nodes.{with_nodes}
use Rattle.node_set.specs.Same.{is_same, is_stored_as}
use Rattle.node_set.proofs.ClosureLemmas.{root_true, true_root}
use Rattle.node_set.proofs.RootTruth.{root_among, some_or_none, twig_at-some}
use Rattle.node_set.proofs.SoundLemmas.{stored_value, AllRoots, all_roots}
use Rattle.core_forks.specs.Truncations.{is_same_node, fresh_roots}
use Rattle.log_change.specs.LogChange.{stays, AreFresh, Ascend}
use Rattle.log_change.proofs.Applied.{as_stored, none_either}
use Rattle.log_change.proofs.Named.{number_of, is_among, HasValue, same_subtree, among_all, get_among, filter_put}

-- ---- the full roots by their numbers

pub root_test : (n d o : ℕ) → is_among (numbers_of (full_roots_of n)) (number d o) ≡ is_root n d o
root_test n d o = elim (cases_Bool (is_among (numbers_of (full_roots_of n)) (number d o))) [
  | inl here ↦ here ∙ sym (root_true n d o (among_all (IsFullRoot n) (full_roots_of n) d o (all_roots n) here))
  | inr none ↦ elim (cases_Bool (is_root n d o)) [
    | inr other ↦ none ∙ sym other
    | inl root ↦
        let full = true_root n d o root in
        let there = root_among n d o full.within full.largest in
        let is = get_or_from_slice_get (full_roots_of n) there.0 (subtree d o) (subtree d o) there.1 in
        let clash : false ≡ true = sym none ∙ get_among (full_roots_of n) there.0 d o (slice_get_within (full_roots_of n) there.0 _ there.1) is in cc
  ]
]

-- ---- whether a node was a root before

was_among : (value : Values) (trees : List Subtree) (node : Node) (d o : ℕ) → node.index ≡ number d o
    → list_any (λ old. is_same_node old node) (map (λ (tree : Subtree). node_at value tree.depth tree.offset) trees)
    ≡ (is_among (numbers_of trees) (number d o) && is_same (twig_at value d o) (twig_of node))
was_among value [] node d o is = refl
was_among value (tree ∷ trees) node d o is =
    let rest = was_among value trees node d o is in
    elim (cases_eq (number tree.depth tree.offset) (number d o)) [
      | inl here ↦
          let same = same_subtree tree.depth tree.offset d o here in
          let twig : twig_at value tree.depth tree.offset ≡ twig_at value d o =
          ap (λ (k : ℕ). twig_at value k tree.offset) same.0 ∙ ap (twig_at value d) same.1 in
          rw (eq-eqb (number tree.depth tree.offset) node.index (here ∙ sym is), eq-eqb (number tree.depth tree.offset) (number d o) here, twig, rest)
          (either (is_same (twig_at value d o) (twig_of node)) (is_among (numbers_of trees) (number d o)))
      | inr other ↦
          rw (ne_eqb (number tree.depth tree.offset) node.index (λ same. other (same ∙ is)), ne_eqb (number tree.depth tree.offset) (number d o) other) rest
    ]
  where
    either : (same among : Bool) → (same || (among && same)) ≡ same
    either true among = refl
    either false among = and-false among

stored_test : (value : Values) (d o : ℕ) (twig : Twig) → is_some (value d o) ≡ true → is_same (twig_at value d o) twig ≡ is_stored_as (value d o) twig
stored_test value d o twig some =
    let own = stored_value (value d o) some in
    ap (λ (t : Twig). is_same t twig) (twig_at-some value d o own.0 own.1) ∙ sym (ap (λ (v : Option Twig). is_stored_as v twig) own.1)

-- ---- the roots that come in

-- the roots of a content, and each of its other nodes as it was before
pub record IsRooted (m after : Content) (nodes : List Node) : Type 0 where
  pub numbered : map number_of nodes ≡ numbers_of (full_roots_of after.length)
  pub values : AllByRecursion (HasValue after.node) nodes
  pub others : (d o : ℕ) (twig : Twig) → is_root after.length d o ≡ false → after.node d o ≡ Some twig → m.node d o ≡ Some twig
  pub were : (d o : ℕ) → is_root m.length d o ≡ true → is_root after.length d o ≡ true → is_some (m.node d o) ≡ true

module _ (m after : Content) (nodes : List Node) (rooted : IsRooted m after nodes) (d o : ℕ) where
  -- a root comes in unless it stays
  comes_in : (node : Node) → is_root after.length d o ≡ true → after.node d o ≡ Some (twig_of node) → node.index ≡ number d o
      → not (list_any (λ old. is_same_node old node) (roots m)) ≡ not (stays m after d o)
  comes_in node root value is =
      let was = was_among m.node (full_roots_of m.length) node d o is ∙ ap (λ (b : Bool). b && is_same (twig_at m.node d o) (twig_of node)) (root_test m.length d o) in
      let twig : twig_at after.node d o ≡ twig_of node = twig_at-some after.node d o (twig_of node) value in
      ap not (was ∙ (elim (cases_Bool (is_root m.length d o)) [
        | inr other ↦ rw (other, root) (sym (and-false (is_stored_as (m.node d o) (twig_at after.node d o))))
        | inl old ↦
            rw (old, root, twig)
            (stored_test m.node d o (twig_of node) (rooted.were d o old root) ∙ sym (and-true (is_stored_as (m.node d o) (twig_of node))))
      ]))

  all_tests : (ns : List Node) → is_root after.length d o ≡ true → AllByRecursion (HasValue after.node) ns
      → AllByRecursion (λ (node : Node). node.index ≡ number d o → not (list_any (λ old. is_same_node old node) (roots m)) ≡ not (stays m after d o)) ns
  all_tests [] root all = tt
  all_tests (node ∷ ns) root all = (λ is. comes_in node root (all.0 d o is) is, all_tests ns root all.1)

  no_tests : (ns : List Node) → is_among (map number_of ns) (number d o) ≡ false
      → AllByRecursion (λ (node : Node). node.index ≡ number d o → not (list_any (λ old. is_same_node old node) (roots m)) ≡ false) ns
  no_tests [] none = tt
  no_tests (node ∷ ns) none = elim (cases_eq node.index (number d o)) [
    | inl here ↦ let clash : true ≡ false = sym (ap (λ (b : Bool). b || is_among (map number_of ns) (number d o)) (eq-eqb node.index (number d o) here)) ∙ none in cc
    | inr other ↦
        (λ is. absurd (other is), no_tests ns (ap (λ (b : Bool). b || is_among (map number_of ns) (number d o)) (sym (ne_eqb node.index (number d o) other)) ∙ none))
  ]

  pub rooted_fresh : with_nodes (λ d o. None) (fresh_roots (roots m) nodes) d o ≡ (if stays m after d o then None else after.node d o)
  rooted_fresh =
      let among : is_among (map number_of nodes) (number d o) ≡ is_root after.length d o =
      ap (λ (ns : List ℕ). is_among ns (number d o)) rooted.numbered ∙ root_test after.length d o in
      let test = λ (node : Node). not (list_any (λ old. is_same_node old node) (roots m)) in
      elim (cases_Bool (is_root after.length d o)) [
        | inl root ↦
            filter_put after.node test (not (stays m after d o)) d o nodes (λ d o. None) rooted.values (all_tests nodes root rooted.values)
            ∙ ap (λ (b : Bool). if not (stays m after d o) && b then after.node d o else None) (among ∙ root)
            ∙ either (stays m after d o)
        | inr other ↦
            filter_put after.node test false d o nodes (λ d o. None) rooted.values (no_tests nodes (among ∙ other))
            ∙ (elim (some_or_none (after.node d o)) [
              | inr none ↦ sym (none_either (stays m after d o) (after.node d o) none)
              | inl some ↦
                  let same = as_stored (m.node d o) (twig_at after.node d o)
                  (rooted.others d o some.0 other some.1 ∙ ap Some (sym (twig_at-some after.node d o some.0 some.1))) in
                  let stay : stays m after d o ≡ true = rw (same, other) refl in
                  sym (ap (λ (b : Bool). if b then None else after.node d o) stay)
            ])
      ]
    where
      either : (stay : Bool) → (if not stay && true then after.node d o else None) ≡ (if stay then None else after.node d o)
      either true = refl
      either false = refl

-- ---- in order

later_numbers : (trees : List Subtree) (nodes : List Node) (from to low : ℕ) → Tile trees from to → map number_of nodes ≡ numbers_of trees → low < 2 * from + 1
    → All (λ (node : Node). low ≤ node.index) nodes
later_numbers trees [] from to low tile is below = All-nil (λ (node : Node). low ≤ node.index)
later_numbers [] (node ∷ nodes) from to low tile is below = let clash : node.index ∷ map number_of nodes ≡ [] = is in cc
later_numbers (tree ∷ trees) (node ∷ nodes) from to low tile is below =
    let here : node.index ≡ number tree.depth tree.offset = cc in
    let rest : map number_of nodes ≡ numbers_of trees = cc in
    let size = end_first tree.depth tree.offset in
    let own = number_first tree.depth tree.offset in
    All-cons (λ (node : Node). low ≤ node.index) node nodes (omega (arith, here, own, tile.0, below, pow_pos tree.depth))
    (later_numbers trees nodes (end_block_of tree.depth tree.offset) to low tile.1 rest (omega (arith, tile.0, size, below)))

ascending : (trees : List Subtree) (nodes : List Node) (from to : ℕ) → Tile trees from to → map number_of nodes ≡ numbers_of trees → Ascend nodes
ascending trees [] from to tile is = λ i j d less within. absurd (omega (arith, within))
ascending [] (node ∷ nodes) from to tile is = let clash : node.index ∷ map number_of nodes ≡ [] = is in cc
ascending (tree ∷ trees) (node ∷ nodes) from to tile is =
    let here : node.index ≡ number tree.depth tree.offset = cc in
    let rest : map number_of nodes ≡ numbers_of trees = cc in
    let less = number_below tree.depth tree.offset in
    AllPairs-cons (λ (one other : Node). one.index < other.index) node nodes
    (later_numbers trees nodes (end_block_of tree.depth tree.offset) to (suc node.index) tile.1 rest (omega (arith, here, less)))
    (ascending trees nodes (end_block_of tree.depth tree.offset) to tile.1 rest)

pub fresh_ascend : (n : ℕ) (before nodes : List Node) → map number_of nodes ≡ numbers_of (full_roots_of n) → Ascend (fresh_roots before nodes)
fresh_ascend n before nodes is =
    AllPairs-filter (λ (one other : Node). one.index < other.index) (λ root. not (list_any (λ old. is_same_node old root) before)) nodes (ascending (full_roots_of n) nodes 0 n (tile-full n) is)

-- what is put in of the roots, under their names
pub put_same : (fresh before nodes old new : List Node) → fresh ≡ fresh_roots before nodes → before ≡ old → nodes ≡ new → fresh ≡ fresh_roots old new
put_same fresh before nodes old new is same_before same_nodes =
    is ∙ ap (λ (ns : List Node). fresh_roots ns nodes) same_before ∙ ap (fresh_roots old) same_nodes
