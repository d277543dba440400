-- What a batch has, from the empty one on, block by block.
use Rattle.std.proofs.Common.{◌≡◌, ℕ, suc, ◌+◌, ◌-◌, ◌≤◌, List, [], ◌∷◌, ◌++◌, length, get_or, map, Some, sym, ◌∙◌, ap, subst, arith}
use Rattle.std.proofs.lemmas.List.{length_push}
use Rattle.std.proofs.lemmas.List.Sums.{sum_by_push}
use Rattle.std.proofs.Math.Seq.{get_or-append_seam}
use Rattle.flat_tree.specs.Subtrees.{Subtree, end_block_of}
use Rattle.flat_tree.specs.Roots.{full_roots_of}
use Rattle.flat_tree.specs.declared.limits.TheConstants.{MAX_BLOCKS}
use Rattle.flat_tree.proofs.RootLemmas.{tile-full}
use Rattle.merkle_nodes.specs.declared.node.Node.{Node}
use Rattle.merkle_nodes.specs.declared.node.Twig.{Twig}
use Rattle.merkle_nodes.specs.Tree.{leaf_of}
use Rattle.merkle_nodes.specs.Roots.{twig_of}
use Rattle.merkle_nodes.specs.Joined.{Values, with_blocks}
use Rattle.merkle_nodes.specs.Nodes.{AreNodes, bytes_under}
use Rattle.merkle_nodes.proofs.JoinedValues.{joined-known, with_blocks-below, joined-parent, joined-leaf, joined-more, EndBy, EndBy-tile, AreNodes-carry}
use Rattle.merkle_batch.specs.Batch.{ending_with, made_with, BatchView, grown, HasBlocks, PushesBlock}
use Rattle.merkle_batch.specs.Growth.{JoinsAt, AreOf, AddsLeaf}
use Rattle.merkle_batch.proofs.Made.{made_with-suc, made_with-end}

-- the full roots of so many blocks end by the last
full_end : (blocks : ℕ) → EndBy blocks (full_roots_of blocks)
full_end blocks = EndBy-tile (full_roots_of blocks) 0 blocks (tile-full blocks)

-- ---- the empty batch

-- without blocks the roots keep their values
grown_none : (base : ℕ) (known : Values) (roots : List Node) → AreNodes known (full_roots_of base) roots → AreNodes (grown base known []) (full_roots_of base) roots
grown_none base known roots are =
    let carry = λ (depth offset : ℕ) (twig : Twig) (ends : end_block_of depth offset ≤ base) (is : known depth offset ≡ Some twig).
    joined-known (with_blocks base known []) depth offset twig (with_blocks-below base known [] depth offset ends ∙ is) in
    AreNodes-carry known (grown base known []) base carry (full_roots_of base) roots (full_end base) are

pub HasBlocks-none : (known : Values) (batch : BatchView) → batch.blocks ≡ 0 → batch.bytes ≡ 0 → batch.nodes ≡ []
    → AreNodes known (full_roots_of batch.base) batch.roots → HasBlocks known [] batch
HasBlocks-none known batch blocks bytes nodes are =
    let all = grown_none batch.base known batch.roots are in
    record {
      count = blocks;
      bytes = bytes;
      roots = subst (λ (n : ℕ). AreNodes (grown batch.base known []) (full_roots_of n) batch.roots) (omega arith) all;
      nodes = ap (map Some) nodes;
    }

-- ---- one block more

module _ (base : ℕ) (known : Values) (blocks : List (List ℕ)) (block : List ℕ) where
  abbrev after : ℕ
  after = base + length blocks

  abbrev more : List (List ℕ)
  more = blocks ++ block ∷ []

  -- the nodes that are there keep their values
  carried : (trees : List Subtree) (nodes : List Node) → EndBy after trees → AreNodes (grown base known blocks) trees nodes
      → AreNodes (grown base known more) trees nodes
  carried trees nodes =
      AreNodes-carry (grown base known blocks) (grown base known more) after (λ depth offset twig ends is.
      joined-more base known blocks (block ∷ []) depth offset ends ∙ is) trees nodes

  -- the new block's leaf, and the parents above it
  leaf_there : grown base known more 0 after ≡ Some (leaf_of block)
  leaf_there =
      let place : after - base ≡ length blocks = omega arith in
      joined-leaf base known more after (omega arith) (omega (arith, length_push blocks block))
      ∙ ap (λ (i : ℕ). Some (leaf_of (get_or more i []))) place ∙ ap (λ (b : List ℕ). Some (leaf_of b)) (get_or-append_seam blocks block [] [])

  joins_there : JoinsAt (grown base known more) after
  joins_there depth offset ends = joined-parent base known more depth offset (omega (arith, ends))

  -- the roots and nodes with it
  grown_push : (leaf : Node) (old_roots new_roots old_nodes new_nodes : List Node) → after ≤ MAX_BLOCKS → twig_of leaf ≡ leaf_of block
      → ((values : Values) → (trees : List Subtree) → AddsLeaf values trees after leaf old_roots new_roots old_nodes new_nodes)
      → AreOf (grown base known blocks) after (made_with base (length blocks)) old_roots old_nodes
      → AreOf (grown base known more) (base + length more) (made_with base (length more)) new_roots new_nodes
  grown_push leaf old_roots new_roots old_nodes new_nodes few is_leaf adds are =
      let values = grown base known more in
      let roots = carried (full_roots_of after) old_roots (full_end after) are.at_roots in
      let nodes = carried (made_with base (length blocks)) old_nodes (made_with-end base (length blocks) few) are.at_nodes in
      let added = adds values (made_with base (length blocks)) joins_there (leaf_there ∙ ap Some (sym is_leaf)) (record { at_roots = roots; at_nodes = nodes }) in
      let many : suc (length blocks) ≡ length more = omega (arith, length_push blocks block) in
      let next : after + 1 ≡ base + length more = omega (arith, many) in
      let made : made_with base (length blocks) ++ ending_with after ≡ made_with base (length more) = sym (made_with-suc base (length blocks)) ∙ ap (made_with base) many in
      record {
        at_roots = subst (λ (n : ℕ). AreNodes values (full_roots_of n) new_roots) next added.at_roots;
        at_nodes = subst (λ (trees : List Subtree). AreNodes values trees new_nodes) made added.at_nodes;
      }

-- what the code adds for a leaf, for whatever values
abbrev pub AddsAny : ℕ → Node → BatchView → BatchView → Type 0
AddsAny block leaf old new = (values : Values) → (trees : List Subtree) → AddsLeaf values trees block leaf old.roots new.roots old.nodes new.nodes

-- the batch after a leaf was added
pub record HasAdded (block : List ℕ) (leaf : Node) (old new : BatchView) : Type 0 where
  pub few : old.base + old.blocks ≤ MAX_BLOCKS
  pub is_leaf : twig_of leaf ≡ leaf_of block
  pub adds : AddsAny (old.base + old.blocks) leaf old new
  pub total : bytes_under new.roots ≡ bytes_under old.roots + leaf.size
  pub room : new.room ≡ old.room
  pub base : new.base ≡ old.base
  pub blocks : new.blocks ≡ old.blocks + 1
  pub bytes : new.bytes ≡ old.bytes + length block

HasBlocks-push : (known : Values) (blocks : List (List ℕ)) (block : List ℕ) (leaf : Node) (old new : BatchView) → HasAdded block leaf old new
    → HasBlocks known blocks old → HasBlocks known (blocks ++ block ∷ []) new
HasBlocks-push known blocks block leaf old new pushed held =
    let place : old.base + old.blocks ≡ old.base + length blocks = ap (λ (n : ℕ). old.base + n) held.count in
    let adds = subst (λ (n : ℕ). AddsAny n leaf old new) place pushed.adds in
    let are : AreOf (grown old.base known blocks) (old.base + length blocks) (made_with old.base (length blocks)) old.roots old.nodes =
    record { at_roots = held.roots; at_nodes = held.nodes } in
    let now = grown_push old.base known blocks block leaf old.roots new.roots old.nodes new.nodes (omega (arith, pushed.few, place)) pushed.is_leaf adds are in
    let all = blocks ++ block ∷ [] in
    record {
      count = pushed.blocks ∙ ap (λ (n : ℕ). n + 1) held.count ∙ sym (length_push blocks block);
      bytes = omega (arith, pushed.bytes, held.bytes, sum_by_push length blocks block);
      roots = subst (λ (n : ℕ). AreNodes (grown n known all) (full_roots_of (n + length all)) new.roots) (sym pushed.base) now.at_roots;
      nodes = subst (λ (n : ℕ). AreNodes (grown n known all) (made_with n (length all)) new.nodes) (sym pushed.base) now.at_nodes;
    }

-- so it has the block
pub PushesBlock-is : (block : List ℕ) (leaf : Node) (old new : BatchView) → HasAdded block leaf old new → PushesBlock block old new
PushesBlock-is block leaf old new pushed =
    let size = ap (λ (t : Twig). t.size) pushed.is_leaf in
    record {
      room = pushed.room;
      base = pushed.base;
      blocks = pushed.blocks;
      bytes = pushed.bytes;
      total = omega (arith, pushed.total, size);
      held = λ known held has. HasBlocks-push known held block leaf old new pushed has;
    }
