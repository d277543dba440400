-- Joined values of the subtrees of a log whose first blocks are known by their values, with blocks behind them.
use Rattle.std.proofs.Common.{◌≡◌, ℕ, zero, suc, ◌+◌, ◌-◌, ◌*◌, ◌<◌, ◌≤◌, inl, inr, List, [], ◌∷◌, ◌++◌, length, get_or, map, option_map, Option, Some, None, refl, sym, ap, ◌∙◌, arith, length-append}
use Rattle.std.specs.List.{AllByRecursion}
use Rattle.std.proofs.lemmas.Bool.{cases_lt, le-leb, lt-leb, lt-ltb}
use Rattle.std.proofs.lemmas.List.{get_or_append_left, get_or-append_right}
use Rattle.flat_tree.specs.Subtrees.{Subtree, subtree, number, end_block_of, Tile}
use Rattle.flat_tree.proofs.NumberLemmas.{leaf, end-suc}
use Rattle.flat_tree.proofs.RootLemmas.{tile-le}
use Rattle.merkle_nodes.specs.declared.node.Node.{Node}
use Rattle.merkle_nodes.specs.declared.node.Twig.{Twig}
use Rattle.merkle_nodes.specs.Tree.{leaf_of, tree_of}
use Rattle.merkle_nodes.specs.Roots.{node_of, twig_of}
use Rattle.merkle_nodes.specs.Joined.{Values, parent_if, joined, leaves_from, with_blocks}
use Rattle.merkle_nodes.specs.Nodes.{node_in, AreNodes}
use Rattle.merkle_nodes.proofs.Descent.{half_ends}

-- what is known stays
pub joined-known : (known : Values) (depth offset : ℕ) (twig : Twig) → known depth offset ≡ Some twig → joined known depth offset ≡ Some twig
unfolding joined
joined-known known zero offset twig is = is
joined-known known (suc depth) offset twig is = rw is refl

module _ (base : ℕ) (old : Values) where
  -- the subtrees of the first blocks have the old values
  pub with_blocks-below : (blocks : List (List ℕ)) (depth offset : ℕ) → end_block_of depth offset ≤ base
      → with_blocks base old blocks depth offset ≡ old depth offset
  with_blocks-below blocks depth offset below = rw (le-leb (end_block_of depth offset) base below) refl

  with_blocks-behind : (blocks : List (List ℕ)) (depth offset : ℕ) → base < end_block_of depth offset
      → with_blocks base old blocks depth offset ≡ leaves_from base blocks depth offset
  with_blocks-behind blocks depth offset behind = rw (lt-leb (end_block_of depth offset) base behind) refl

  -- a subtree that ends behind the first blocks has the parent of its halves
  pub joined-parent : (blocks : List (List ℕ)) (depth offset : ℕ) → base < end_block_of (suc depth) offset
      → joined (with_blocks base old blocks) (suc depth) offset
      ≡ parent_if (joined (with_blocks base old blocks) depth (2 * offset)) (joined (with_blocks base old blocks) depth (2 * offset + 1))
  unfolding joined
  joined-parent blocks depth offset behind = rw (with_blocks-behind blocks (suc depth) offset behind) refl

  -- a block behind them has its leaf
  pub joined-leaf : (blocks : List (List ℕ)) (offset : ℕ) → base ≤ offset → offset < base + length blocks
      → joined (with_blocks base old blocks) 0 offset ≡ Some (leaf_of (get_or blocks (offset - base) []))
  unfolding joined
  joined-leaf blocks offset from below =
      let behind : base < end_block_of 0 offset = omega (arith, from, leaf offset) in
      with_blocks-behind blocks 0 offset behind ∙ rw (le-leb base offset from, lt-ltb offset (base + length blocks) below) refl

  -- more blocks change no value of the subtrees before them
  pub joined-more : (blocks more : List (List ℕ)) (depth offset : ℕ) → end_block_of depth offset ≤ base + length blocks
      → joined (with_blocks base old (blocks ++ more)) depth offset ≡ joined (with_blocks base old blocks) depth offset
  unfolding joined
  joined-more blocks more zero offset within = elim (cases_lt base (end_block_of 0 offset)) [
    | inr below ↦ with_blocks-below (blocks ++ more) 0 offset below ∙ sym (with_blocks-below blocks 0 offset below)
    | inl behind ↦
        let from : base ≤ offset = omega (arith, behind, leaf offset) in
        let here : offset < base + length blocks = omega (arith, within, leaf offset) in
        joined-leaf (blocks ++ more) offset from (omega (arith, here, length-append blocks more))
        ∙ ap (λ (block : List ℕ). Some (leaf_of block)) (get_or_append_left blocks more [] (offset - base) (omega (arith, from, here)))
        ∙ sym (joined-leaf blocks offset from here)
  ]
  joined-more blocks more (suc depth) offset within = rw (
    joined-more blocks more depth (2 * offset) (omega (arith, within, half_ends depth offset)),
    joined-more blocks more depth (2 * offset + 1) (omega (arith, within, end-suc depth offset)),
  ) refl

-- over the values of a log's first blocks, the joined values are those of the log
module _ (first blocks : List (List ℕ)) (old : Values)
    (known : (depth offset : ℕ) → end_block_of depth offset ≤ length first → old depth offset ≡ Some (tree_of (first ++ blocks) depth offset)) where
  abbrev extended : Values
  extended = with_blocks (length first) old blocks

  log_below : (depth offset : ℕ) → end_block_of depth offset ≤ length first → joined extended depth offset ≡ Some (tree_of (first ++ blocks) depth offset)
  log_below depth offset below = joined-known extended depth offset _ (with_blocks-below (length first) old blocks depth offset below ∙ known depth offset below)

  pub joined-log : (depth offset : ℕ) → end_block_of depth offset ≤ length (first ++ blocks)
      → joined extended depth offset ≡ Some (tree_of (first ++ blocks) depth offset)
  unfolding tree_of
  joined-log zero offset within = elim (cases_lt (length first) (end_block_of 0 offset)) [
    | inr below ↦ log_below 0 offset below
    | inl behind ↦
        let from : length first ≤ offset = omega (arith, behind, leaf offset) in
        joined-leaf (length first) old blocks offset from (omega (arith, within, leaf offset, length-append first blocks))
        ∙ ap (λ (block : List ℕ). Some (leaf_of block)) (sym (get_or-append_right first blocks (length first) offset [] refl from))
  ]
  joined-log (suc depth) offset within = elim (cases_lt (length first) (end_block_of (suc depth) offset)) [
    | inr below ↦ log_below (suc depth) offset below
    | inl behind ↦
        let left = joined-log depth (2 * offset) (omega (arith, within, half_ends depth offset)) in
        let right = joined-log depth (2 * offset + 1) (omega (arith, within, end-suc depth offset)) in
        joined-parent (length first) old blocks depth offset behind ∙ rw (left, right) refl
  ]

-- ---- nodes of subtrees

-- each subtree ends by a block
abbrev pub EndBy : ℕ → List Subtree → Type 0
EndBy bound = AllByRecursion (λ (tree : Subtree). end_block_of tree.depth tree.offset ≤ bound)

pub EndBy-append : (bound : ℕ) (xs ys : List Subtree) → EndBy bound xs → EndBy bound ys → EndBy bound (xs ++ ys)
EndBy-append bound [] ys one two = two
EndBy-append bound (x ∷ xs) ys one two = (one.0, EndBy-append bound xs ys one.1 two)

pub EndBy-higher : (low high : ℕ) (xs : List Subtree) → low ≤ high → EndBy low xs → EndBy high xs
EndBy-higher low high [] more ends = tt
EndBy-higher low high (x ∷ xs) more ends = (omega (arith, more, ends.0), EndBy-higher low high xs more ends.1)

-- those of a tiling do
pub EndBy-tile : (trees : List Subtree) (from to : ℕ) → Tile trees from to → EndBy to trees
EndBy-tile [] from to tile = tt
EndBy-tile (tree ∷ trees) from to tile = (tile-le trees _ to tile.1, EndBy-tile trees _ to tile.1)

node_value : (depth offset : ℕ) (value : Option Twig) (node : Node) → option_map (node_of depth offset) value ≡ Some node → value ≡ Some (twig_of node)
node_value depth offset (Some twig) node is =
    let same : node_of depth offset twig ≡ node = cc in
    ap (λ (n : Node). Some (twig_of n)) same
node_value depth offset None node is = cc

-- a node of a subtree has its value
pub node_in-value : (values : Values) (tree : Subtree) (node : Node) → node_in values tree ≡ Some node → values tree.depth tree.offset ≡ Some (twig_of node)
node_in-value values tree node is = node_value tree.depth tree.offset (values tree.depth tree.offset) node is

-- what has the number and the value of a subtree is its node
pub node_in-is : (values : Values) (depth offset : ℕ) (node : Node) → node.index ≡ number depth offset → values depth offset ≡ Some (twig_of node)
    → node_in values (subtree depth offset) ≡ Some node
node_in-is values depth offset node index value =
    ap (option_map (node_of depth offset)) value ∙ ap (λ (i : ℕ). Some (record { index = i; size = node.size; hash = node.hash })) (sym index)

node_in-carry : (old new : Values) (tree : Subtree) (node : Node)
    → ((twig : Twig) → old tree.depth tree.offset ≡ Some twig → new tree.depth tree.offset ≡ Some twig)
    → Some node ≡ node_in old tree → Some node ≡ node_in new tree
node_in-carry old new tree node carry is =
    let value = node_in-value old tree node (sym is) in
    is ∙ ap (option_map (node_of tree.depth tree.offset)) (value ∙ sym (carry (twig_of node) value))

-- nodes stay those of their subtrees where the values of these stay
pub AreNodes-carry : (old new : Values) (bound : ℕ)
    → ((depth offset : ℕ) (twig : Twig) → end_block_of depth offset ≤ bound → old depth offset ≡ Some twig → new depth offset ≡ Some twig)
    → (trees : List Subtree) (nodes : List Node) → EndBy bound trees → AreNodes old trees nodes → AreNodes new trees nodes
AreNodes-carry old new bound carry [] nodes ends are = are
AreNodes-carry old new bound carry (tree ∷ trees) [] ends are = cc
AreNodes-carry old new bound carry (tree ∷ trees) (node ∷ nodes) ends are =
    let first : Some node ≡ node_in old tree = cc in
    let others : map Some nodes ≡ map (node_in old) trees = cc in
    let here : Some node ≡ node_in new tree = node_in-carry old new tree node (λ twig. carry tree.depth tree.offset twig ends.0) first in
    let rest = AreNodes-carry old new bound carry trees nodes ends.1 others in
    ap (λ (n : Option Node). n ∷ map Some nodes) here ∙ ap (λ (ns : List (Option Node)). node_in new tree ∷ ns) rest

-- where the subtrees that end by a block have these values, the nodes of such are these
pub AreNodes-is : (values : Values) (tree_at : ℕ → ℕ → Twig) (bound : ℕ)
    → ((depth offset : ℕ) → end_block_of depth offset ≤ bound → values depth offset ≡ Some (tree_at depth offset))
    → (trees : List Subtree) (nodes : List Node) → EndBy bound trees → AreNodes values trees nodes
    → nodes ≡ map (λ (tree : Subtree). node_of tree.depth tree.offset (tree_at tree.depth tree.offset)) trees
AreNodes-is values tree_at bound known [] [] ends are = refl
AreNodes-is values tree_at bound known [] (node ∷ nodes) ends are = cc
AreNodes-is values tree_at bound known (tree ∷ trees) [] ends are = cc
AreNodes-is values tree_at bound known (tree ∷ trees) (node ∷ nodes) ends are =
    let first : Some node ≡ node_in values tree = cc in
    let others : map Some nodes ≡ map (node_in values) trees = cc in
    let node_at = λ (t : Subtree). node_of t.depth t.offset (tree_at t.depth t.offset) in
    let here : Some node ≡ Some (node_at tree) = first ∙ ap (option_map (node_of tree.depth tree.offset)) (known tree.depth tree.offset ends.0) in
    let is : node ≡ node_at tree = cc in
    let rest = AreNodes-is values tree_at bound known trees nodes ends.1 others in
    ap (λ (n : Node). n ∷ nodes) is ∙ ap (λ (ns : List Node). node_at tree ∷ ns) rest
