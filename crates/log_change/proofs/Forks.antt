-- What a truncation, a clearing and another log make of a content, as changes.
use Rattle.std.proofs.Common.{◌≡◌, ℕ, Bool, true, false, ◌+◌, ◌<◌, ◌≤◌, inl, inr, List, [], ◌∷◌, map, nat_eq, nat_le, nat_lt, if◌then◌else◌, Option, Some, None, refl, sym, ap, ◌∙◌, arith}
use Rattle.std.specs.Prelude.{is_some, option_map, not, ◌&&◌, ◌||◌}
use Rattle.std.specs.List.{AllByRecursion}
use Rattle.std.proofs.lemmas.Bool.{cases_Bool, cases_eq, cases_lt, eq-eqb, ne_eqb, eqb-true, and_parts, and_from, lt-ltb, le-ltb, lt-leb, le-leb}
use Rattle.std.proofs.Math.Bool.{and-false}
use Rattle.std.proofs.lemmas.Nat.{pow_pos}
use Rattle.flat_tree.specs.Subtrees.{Subtree, number, numbers_of, end_block_of, Tile}
use Rattle.flat_tree.specs.Roots.{full_roots_of}
use Rattle.flat_tree.proofs.NumberLemmas.{end_first}
use Rattle.flat_tree.proofs.RootLemmas.{tile-full}
use Rattle.commit_book.specs.declared.commit.Commit.{Commit}
use Rattle.commit_book.specs.declared.commit.Commit.TheVariants.{Truncate, Reorg}
use Rattle.commit_book.specs.History.{is_between}
use Rattle.merkle_nodes.specs.declared.node.Node.{Node}
use Rattle.merkle_nodes.specs.declared.node.Twig.{Twig}
use Rattle.merkle_nodes.specs.declared.roots.Head.{Head}
use Rattle.merkle_nodes.specs.Joined.{Values, or_value, value_in}
use Rattle.merkle_nodes.specs.Nodes.{AreNodes, node_in}
use Rattle.merkle_nodes.specs.Roots.{node_of, twig_of}
use Rattle.merkle_nodes.proofs.JoinedValues.{node_in-value, node_in-is}
use Rattle.node_set.specs.Contents.{Content, Blocks, holds, held, twig_at, roots}
use Rattle.node_set.specs.Closure.{in_closure, is_root, IsFullRoot}
use Rattle.node_set.specs.Nodes.{with_nodes}
use Rattle.node_set.specs.Changes.{closed, content_on, blocks_below, blocks_without, truncate_content, clear_content}
use Rattle.node_set.specs.Whole.{IsClosed}
use Rattle.node_set.proofs.ClosureLemmas.{root_in_closure, true_root}
use Rattle.node_set.proofs.KeepsWhole.{clear_roots}
use Rattle.node_set.proofs.RootTruth.{some_or_none, twig_at-some}
use Rattle.node_set.proofs.SoundLemmas.{closed_in, closed_some, AllRoots, all_roots}
use Rattle.core_forks.specs.Reorganise.{kept_of, reorganise_content}
use Rattle.core_forks.specs.Truncations.{fresh_roots}
use Rattle.log_change.specs.LogChange.{stays, AreFresh, blocks_after, IsChange, signed}
use Rattle.log_change.specs.Calls.{truncation, clearing, reorganisation}
use Rattle.log_change.proofs.Applied.{as_stored, none_either}
use Rattle.log_change.proofs.Named.{number_of, is_among, same_subtree, numbers_are, values_are, nodes_are}
use Rattle.log_change.proofs.Rooted.{root_test, IsRooted, rooted_fresh}

-- ---- blocks

none_come : (index : ℕ) → is_between 0 0 index ≡ false
none_come index = ap (λ (b : Bool). nat_le 0 index && b) (le-ltb index 0 (omega arith)) ∙ and-false (nat_le 0 index)

-- what isn't below an index is from it on
pub without_rest : (to n : ℕ) (block : Blocks) → ((index : ℕ) → holds block index ≡ true → index < n) → (index : ℕ)
    → blocks_below to block index ≡ blocks_without to n block index
without_rest to n block below index = elim (cases_lt index to) [
  | inl kept ↦ rw (lt-ltb index to kept, lt-leb to index kept) refl
  | inr past ↦ elim (cases_lt index n) [
    | inl gone ↦ rw (le-ltb index to past, le-leb to index past, lt-ltb index n gone) refl
    | inr behind ↦ rw (le-ltb index to past, le-leb to index past, le-ltb index n behind) (sym (none behind))
  ]
]
  where
    none : n ≤ index → block index ≡ None
    none behind = elim (some_or_none (block index)) [
      | inr is ↦ is
      | inl some ↦ absurd (omega (arith, below index (ap is_some some.1), behind))
    ]

-- ---- nodes at roots

node_ins : (n : ℕ) (one other : Values) → ((d o : ℕ) → IsFullRoot n d o → one d o ≡ other d o) → (trees : List Subtree) → AllRoots n trees
    → map (node_in one) trees ≡ map (node_in other) trees
node_ins n one other same [] all = refl
node_ins n one other same (tree ∷ trees) all =
    ap (λ (o : Option Node). o ∷ map (node_in one) trees) (ap (option_map (node_of tree.depth tree.offset)) (same tree.depth tree.offset all.0))
    ∙ ap (λ (os : List (Option Node)). node_in other tree ∷ os) (node_ins n one other same trees all.1)

-- the closure's values are these at the roots
pub closed_nodes : (n : ℕ) (block : Blocks) (value : Values) (nodes : List Node) → AreNodes value (full_roots_of n) nodes
    → AreNodes (closed n block value) (full_roots_of n) nodes
closed_nodes n block value nodes are =
    are ∙ sym (node_ins n (closed n block value) value (λ d o root. closed_in n block value d o (root_in_closure n (holds block) d o root)) (full_roots_of n) (all_roots n))

some_at : (value : Values) (trees : List Subtree) (nodes : List Node) (d o : ℕ) → AreNodes value trees nodes → is_among (numbers_of trees) (number d o) ≡ true
    → is_some (value d o) ≡ true
some_at value [] nodes d o are test = let clash : false ≡ true = test in cc
some_at value (tree ∷ trees) [] d o are test = let clash : [] ≡ node_in value tree ∷ map (node_in value) trees = are in cc
some_at value (tree ∷ trees) (node ∷ nodes) d o are test =
    let first : Some node ≡ node_in value tree = cc in
    let rest : map Some nodes ≡ map (node_in value) trees = cc in
    elim (cases_eq (number tree.depth tree.offset) (number d o)) [
      | inl here ↦
          let same = same_subtree tree.depth tree.offset d o here in
          ap is_some (sym (ap (λ (k : ℕ). value k tree.offset) same.0 ∙ ap (value d) same.1) ∙ node_in-value value tree node (sym first))
      | inr other ↦ some_at value trees nodes d o rest (ap (λ (b : Bool). b || is_among (numbers_of trees) (number d o)) (sym (ne_eqb (number tree.depth tree.offset) (number d o) other)) ∙ test)
    ]

-- ---- a truncation

module _ (m : Content) (to fork : ℕ) (signature : List ℕ) (nodes : List Node) (below : (index : ℕ) → held m index ≡ true → index < m.length)
    (are : AreNodes m.node (full_roots_of to) nodes) where
  truncate_rooted : IsRooted m (truncate_content to fork signature m) nodes
  truncate_rooted = record {
    numbered = numbers_are m.node (full_roots_of to) nodes are;
    values = values_are (closed to (blocks_below to m.block) m.node) (full_roots_of to) nodes (closed_nodes to (blocks_below to m.block) m.node nodes are);
    others = λ d o twig other is. (closed_some to (blocks_below to m.block) m.node d o twig is).1;
    were = λ d o old root. some_at m.node (full_roots_of to) nodes d o are (root_test to d o ∙ root);
  }

  pub truncate_change : IsChange m (truncate_content to fork signature m) (Some (Truncate to fork)) [] (fresh_roots (roots m) nodes)
      (signed signature (truncation m to fork nodes))
  truncate_change = record {
    head_is = refl;
    roots_are = nodes_are (closed to (blocks_below to m.block) m.node) (full_roots_of to) nodes (closed_nodes to (blocks_below to m.block) m.node nodes are);
    commit_is = refl;
    blocks = λ index. without_rest to m.length m.block below index ∙ rw (none_come index) refl;
    nodes = rooted_fresh m (truncate_content to fork signature m) nodes truncate_rooted;
  }

-- ---- a clearing

clear_stay : (m : Content) (from to : ℕ) → AreFresh m (clear_content from to m) []
unfolding with_nodes
clear_stay m from to d o = elim (some_or_none ((clear_content from to m).node d o)) [
  | inr none ↦
      sym (none_either (stays m (clear_content from to m) d o) ((clear_content from to m).node d o) none)
  | inl some ↦
      let after = clear_content from to m in
      let old = (closed_some m.length (blocks_without from to m.block) m.node d o some.0 some.1).1 in
      let same = as_stored (m.node d o) (twig_at after.node d o) (old ∙ ap Some (sym (twig_at-some after.node d o some.0 some.1))) in
      let stay : stays m after d o ≡ true = rw same (either (is_root m.length d o)) in
      sym (ap (λ (b : Bool). if b then None else after.node d o) stay)
]
  where
    either : (root : Bool) → (not root || root) ≡ true
    either true = refl
    either false = refl

pub clear_change : (m : Content) (from to : ℕ) (commit : Option Commit) → IsChange m (clear_content from to m) commit [] [] (clearing m from to commit)
clear_change m from to commit = record {
  head_is = refl;
  roots_are = sym (clear_roots m from to);
  commit_is = refl;
  blocks = λ index. rw (none_come index) refl;
  nodes = clear_stay m from to;
}

-- ---- another log

value_none : (trees : List Subtree) (twigs : List Twig) (d o : ℕ) → is_among (numbers_of trees) (number d o) ≡ false → value_in trees twigs d o ≡ None
unfolding value_in
value_none [] twigs d o none = refl
value_none (tree ∷ trees) [] d o none = refl
value_none (tree ∷ trees) (twig ∷ twigs) d o none = elim (cases_eq (number tree.depth tree.offset) (number d o)) [
  | inl here ↦ let clash : true ≡ false = sym (ap (λ (b : Bool). b || is_among (numbers_of trees) (number d o)) (eq-eqb (number tree.depth tree.offset) (number d o) here)) ∙ none in cc
  | inr other ↦
      let rest = value_none trees twigs d o (ap (λ (b : Bool). b || is_among (numbers_of trees) (number d o)) (sym (ne_eqb (number tree.depth tree.offset) (number d o) other)) ∙ none) in
      elim (cases_Bool (nat_eq tree.depth d && nat_eq tree.offset o)) [
        | inr apart ↦ rw apart rest
        | inl test ↦
            let parts = and_parts (nat_eq tree.depth d) (nat_eq tree.offset o) test in
            absurd (other (ap (λ (k : ℕ). number k tree.offset) (eqb-true tree.depth d parts.0) ∙ ap (number d) (eqb-true tree.offset o parts.1)))
      ]
]

-- values that are the nodes' own at subtrees that tile
own_nodes : (value : Values) (trees : List Subtree) (nodes : List Node) (from to : ℕ) → Tile trees from to → map number_of nodes ≡ numbers_of trees
    → ((d o : ℕ) (twig : Twig) → from < end_block_of d o → value_in trees (map twig_of nodes) d o ≡ Some twig → value d o ≡ Some twig)
    → AreNodes value trees nodes
unfolding value_in
own_nodes value [] [] from to tile is has = refl
own_nodes value [] (node ∷ nodes) from to tile is has = let clash : node.index ∷ map number_of nodes ≡ [] = is in cc
own_nodes value (tree ∷ trees) [] from to tile is has = let clash : [] ≡ number tree.depth tree.offset ∷ numbers_of trees = is in cc
own_nodes value (tree ∷ trees) (node ∷ nodes) from to tile is has =
    let here : node.index ≡ number tree.depth tree.offset = cc in
    let others : map number_of nodes ≡ numbers_of trees = cc in
    let size = end_first tree.depth tree.offset in
    let test = and_from (nat_eq tree.depth tree.depth) (nat_eq tree.offset tree.offset) (eq-eqb tree.depth tree.depth refl) (eq-eqb tree.offset tree.offset refl) in
    let own = has tree.depth tree.offset (twig_of node) (omega (arith, tile.0, size, pow_pos tree.depth)) (rw test refl) in
    let rest = own_nodes value trees nodes (end_block_of tree.depth tree.offset) to tile.1 others (λ d o twig behind there.
    has d o twig (omega (arith, behind, tile.0, size)) (rw (apart d o behind) there)) in
    ap (λ (o : Option Node). o ∷ map Some nodes) (sym (node_in-is value tree.depth tree.offset node here own)) ∙ ap (λ (os : List (Option Node)). node_in value tree ∷ os) rest
  where
    apart : (d o : ℕ) → end_block_of tree.depth tree.offset < end_block_of d o → (nat_eq tree.depth d && nat_eq tree.offset o) ≡ false
    apart d o behind = elim (cases_Bool (nat_eq tree.depth d && nat_eq tree.offset o)) [
      | inr other ↦ other
      | inl test ↦
          let parts = and_parts (nat_eq tree.depth d) (nat_eq tree.offset o) test in
          let same = ap (λ (k : ℕ). end_block_of k tree.offset) (eqb-true tree.depth d parts.0) ∙ ap (end_block_of d) (eqb-true tree.offset o parts.1) in
          absurd (omega (arith, behind, same))
    ]

module _ (m : Content) (head : Head) (nodes : List Node) (is_closed : IsClosed m.length m.block m.node) (below : (index : ℕ) → held m index ≡ true → index < m.length)
    (shape : map number_of nodes ≡ numbers_of (full_roots_of head.length)) where
  abbrev trees : List Subtree
  trees = full_roots_of head.length

  abbrev value : Values
  value d o = or_value (value_in trees (map twig_of nodes) d o) (m.node d o)

  abbrev kept : ℕ
  kept = kept_of m head.length (map twig_of nodes)

  abbrev after : Content
  after = reorganise_content head.fork head.length (map twig_of nodes) head.signature m

  are_nodes : AreNodes (closed head.length (blocks_below kept m.block) value) trees nodes
  are_nodes = closed_nodes head.length (blocks_below kept m.block) value nodes
      (own_nodes value trees nodes 0 head.length (tile-full head.length) shape (λ d o twig behind is. ap (λ (v : Option Twig). or_value v (m.node d o)) is))

  reorganise_rooted : IsRooted m after nodes
  reorganise_rooted = record {
    numbered = shape;
    values = values_are (closed head.length (blocks_below kept m.block) value) trees nodes are_nodes;
    others = λ d o twig other is.
        sym (ap (λ (v : Option Twig). or_value v (m.node d o)) (value_none trees (map twig_of nodes) d o (root_test head.length d o ∙ other)))
        ∙ (closed_some head.length (blocks_below kept m.block) value d o twig is).1;
    were = λ d o old root. is_closed d o ∙ root_in_closure m.length (held m) d o (true_root m.length d o old);
  }

  pub reorganise_change : IsChange m after (Some (Reorg head.fork head.length kept)) [] (fresh_roots (roots m) nodes) (reorganisation m head kept nodes)
  reorganise_change = record {
    head_is = refl;
    roots_are = nodes_are (closed head.length (blocks_below kept m.block) value) trees nodes are_nodes;
    commit_is = refl;
    blocks = λ index. without_rest kept m.length m.block below index ∙ rw (none_come index) refl;
    nodes = rooted_fresh m after nodes reorganise_rooted;
  }
