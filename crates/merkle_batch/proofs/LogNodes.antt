-- The roots and nodes of a log in a batch behind the empty log.
use Rattle.std.proofs.Common.{◌≡◌, ℕ, ◌+◌, ◌<◌, ◌≤◌, List, [], length, get_or, Some, sym, ◌∙◌, ap, subst, arith}
use Rattle.std.specs.List.{Contains}
use Rattle.std.proofs.lemmas.List.{length-map, get_or-map}
use Rattle.std.proofs.lemmas.Nat.{pow_pos}
use Rattle.flat_tree.specs.Subtrees.{Subtree, subtree, number, end_block_of}
use Rattle.flat_tree.specs.Roots.{full_roots_of}
use Rattle.flat_tree.specs.declared.limits.TheConstants.{MAX_BLOCKS}
use Rattle.flat_tree.proofs.NumberLemmas.{end_first, same_depth, same_place}
use Rattle.flat_tree.proofs.RootLemmas.{tile-full}
use Rattle.merkle_nodes.specs.declared.node.Node.{Node}
use Rattle.merkle_nodes.specs.Tree.{tree_of}
use Rattle.merkle_nodes.specs.Roots.{node_of, twig_of, roots_of}
use Rattle.merkle_nodes.specs.Joined.{Values}
use Rattle.merkle_nodes.specs.Nodes.{AreNodes}
use Rattle.merkle_nodes.proofs.JoinedValues.{joined-log, EndBy, EndBy-tile, AreNodes-is}
use Rattle.merkle_batch.specs.Batch.{made_with, nodes_of, BatchView, grown, HasBlocks}
use Rattle.merkle_batch.proofs.Made.{made_with-end, made_with-has}

-- a subtree's node in a log
abbrev node_at : List (List ℕ) → Subtree → Node
node_at log tree = node_of tree.depth tree.offset (tree_of log tree.depth tree.offset)

-- the joined values are the trees of the log
pub grown-log : (known : Values) (log : List (List ℕ)) (depth offset : ℕ) → end_block_of depth offset ≤ length log
    → grown 0 known log depth offset ≡ Some (tree_of log depth offset)
grown-log known log = joined-log [] log known (λ depth offset none. absurd (omega (arith, none, end_first depth offset, pow_pos depth)))

-- so the batch has the log's roots, and the node of each of its subtrees
pub HasBlocks-log : (known : Values) (log : List (List ℕ)) (batch : BatchView) → batch.base ≡ 0 → length log ≤ MAX_BLOCKS → HasBlocks known log batch
    → (batch.roots ≡ roots_of log) × (batch.nodes ≡ nodes_of log)
HasBlocks-log known log batch base few held =
    let n = length log in
    let whole : 0 + n ≡ n = omega arith in
    let values = grown 0 known log in
    let roots : AreNodes values (full_roots_of (0 + n)) batch.roots = subst (λ (b : ℕ). AreNodes (grown b known log) (full_roots_of (b + n)) batch.roots) base held.roots in
    let nodes : AreNodes values (made_with 0 n) batch.nodes = subst (λ (b : ℕ). AreNodes (grown b known log) (made_with b n) batch.nodes) base held.nodes in
    let full = subst (λ (k : ℕ). AreNodes values (full_roots_of k) batch.roots) whole roots in
    let ends = subst (λ (k : ℕ). EndBy k (made_with 0 n)) whole (made_with-end 0 n (omega (arith, few))) in (
      AreNodes-is values (tree_of log) n (grown-log known log) (full_roots_of n) batch.roots (EndBy-tile (full_roots_of n) 0 n (tile-full n)) full,
      AreNodes-is values (tree_of log) n (grown-log known log) (made_with 0 n) batch.nodes ends nodes,
    )

-- ---- a node by its number

-- a subtree's node is there
pub nodes_of-has : (log : List (List ℕ)) (depth offset : ℕ) → length log ≤ MAX_BLOCKS → end_block_of depth offset ≤ length log
    → Contains (nodes_of log) (node_of depth offset (tree_of log depth offset))
nodes_of-has log depth offset few within =
    let trees = made_with 0 (length log) in
    let some : 0 < end_block_of depth offset = omega (arith, end_first depth offset, pow_pos depth) in
    let there = made_with-has 0 (length log) depth offset (omega (arith, few)) some (omega (arith, within)) in (
      there.0,
      omega (arith, there.1, length-map trees (node_at log)),
      get_or-map (node_at log) trees there.0 (subtree depth offset) _ there.1 ∙ ap (node_at log) there.2,
    )

-- and no other node has its number
pub nodes_of-only : (log : List (List ℕ)) (node : Node) (depth offset : ℕ) → Contains (nodes_of log) node → node.index ≡ number depth offset
    → twig_of node ≡ tree_of log depth offset
nodes_of-only log node depth offset there index =
    let trees = made_with 0 (length log) in
    let tree = get_or trees there.0 (subtree 0 0) in
    let less : there.0 < length trees = omega (arith, there.1, length-map trees (node_at log)) in
    let is : node ≡ node_at log tree = sym there.2 ∙ get_or-map (node_at log) trees there.0 (subtree 0 0) node less in
    let numbers : number tree.depth tree.offset ≡ number depth offset = ap (λ (n : Node). n.index) (sym is) ∙ index in
    let deep = same_depth tree.depth tree.offset depth offset numbers in
    let place = same_place depth tree.offset offset (ap (λ (d : ℕ). number d tree.offset) (sym deep) ∙ numbers) in
    ap twig_of is ∙ ap (λ (d : ℕ). tree_of log d tree.offset) deep ∙ ap (tree_of log depth) place
