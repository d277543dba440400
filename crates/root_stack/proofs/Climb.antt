-- The way up from a new subtree: while its offset is odd the last root and the node are joined.
use Rattle.std.proofs.Common.{◌≡◌, ℕ, suc, ◌+◌, ◌*◌, ◌^◌, ◌<◌, ◌≤◌, List, [], ◌∷◌, ◌++◌, length, Option, Some, refl, sym, ◌∙◌, ap, subst, arith, add-one, append_assoc}
use Rattle.std.specs.List.{AllByRecursion}
use Rattle.std.specs.Int.{w64, trailing_ones}
use Rattle.std.proofs.lemmas.List.{length_push}
use Rattle.std.proofs.lemmas.List.Sums.{sum_by_push}
use Rattle.flat_tree.specs.Subtrees.{Subtree, subtree, number, first_block_of, end_block_of}
use Rattle.flat_tree.specs.Roots.{full_roots_of}
use Rattle.flat_tree.specs.declared.limits.TheConstants.{MAX_BLOCKS, MAX_ROOTS, MAX_NODE, MAX_CORE_BYTES}
use Rattle.flat_tree.proofs.NumberLemmas.{first-suc, end-suc, halves_meet, number_below, end_first}
use Rattle.flat_tree.proofs.RootLemmas.{length-full}
use Rattle.merkle_nodes.specs.declared.node.Node.{Node}
use Rattle.merkle_nodes.specs.declared.node.Twig.{Twig}
use Rattle.merkle_nodes.specs.Tree.{parent_of}
use Rattle.merkle_nodes.specs.Roots.{HasShape, twig_of}
use Rattle.merkle_nodes.specs.Joined.{Values, parent_if}
use Rattle.merkle_nodes.specs.Nodes.{node_in, AreNodes, bytes_under}
use Rattle.merkle_nodes.proofs.JoinedValues.{node_in-value, node_in-is}
use Rattle.root_stack.specs.Stack.{SizeFits, JoinsAt, AreOf, IsNext, AddsTree, Grows}
use Rattle.root_stack.proofs.FullRoots.{full-left}
use Rattle.root_stack.proofs.Levels.{depth_up, offset_up, levels, levels-more, offset_below, odd_below, even_top, level_end}
use Rattle.root_stack.proofs.NodeLists.{take_last, put_last, many_roots, sizes_fit-push, sizes_fit}

-- the node is the last of its blocks, and the roots that aren't joined yet stand before it
pub record IsClimbing (depth offset : ℕ) (roots : List Node) (node : Node) (all : ℕ) : Type 0 where
  pub shape : HasShape roots (first_block_of depth offset)
  pub index : node.index ≡ number depth offset
  pub bytes : bytes_under roots + node.size ≡ all

-- the same of their values
pub record HasClimbed (values : Values) (depth offset : ℕ) (trees : List Subtree) (roots : List Node) (node : Node) (made : List Node) : Type 0 where
  pub at_roots : AreNodes values (full_roots_of (first_block_of depth offset)) roots
  pub at_node : values depth offset ≡ Some (twig_of node)
  pub at_made : AreNodes values trees made

-- the loop so far: the roots and nodes at first, and those now
pub record IsUnderWay (tree : Subtree) (up : ℕ) (first node : Node) (old_roots roots old_made made : List Node) : Type 0 where
  pub climbing : IsClimbing (depth_up tree up) (offset_up tree up) roots node (bytes_under old_roots + first.size)
  pub many : length made + length roots ≡ length old_made + length old_roots + 1
  pub fit : AllByRecursion SizeFits old_made → AllByRecursion SizeFits made
  pub climbed : (values : Values) → (trees : List Subtree) → JoinsAt values tree → values tree.depth tree.offset ≡ Some (twig_of first)
      → AreOf values (first_block_of tree.depth tree.offset) trees old_roots old_made
      → HasClimbed values (depth_up tree up) (offset_up tree up) (trees ++ levels tree (up + 1)) roots node made

-- ---- the subtree itself

pub IsUnderWay-start : {tree : Subtree} {node : Node} {roots made more : List Node} → IsNext tree node roots → bytes_under roots + node.size ≤ MAX_CORE_BYTES
    → more ≡ made ++ node ∷ [] → IsUnderWay tree 0 node node roots roots made more
IsUnderWay-start {tree} {node} {roots} {made} {more} next few pushed =
    let depth : tree.depth ≡ depth_up tree 0 = omega arith in
    let offset : tree.offset ≡ offset_up tree 0 = omega arith in
    let small : SizeFits node = omega (arith, few) in
    let shape : HasShape roots (first_block_of (depth_up tree 0) (offset_up tree 0)) = rw (← depth, ← offset) next.shape in
    let index : node.index ≡ number (depth_up tree 0) (offset_up tree 0) = rw (← depth, ← offset) next.index in
    record {
      climbing = record { shape = shape; index = index; bytes = refl };
      many = omega (arith, ap length pushed, length_push made node);
      fit = λ fits. subst (AllByRecursion SizeFits) (sym pushed) (sizes_fit-push made node fits small);
      climbed = λ values trees joins value are.
          let here : values (depth_up tree 0) (offset_up tree 0) ≡ Some (twig_of node) = rw (← depth, ← offset) value in
          record {
            at_roots = rw (← depth, ← offset) are.at_roots;
            at_node = here;
            at_made = put_last Some (node_in values) trees (subtree (depth_up tree 0) (offset_up tree 0)) made node refl pushed are.at_made
                (sym (node_in-is values (depth_up tree 0) (offset_up tree 0) node index here));
          };
    }

-- ---- the two halves of the next node

-- the last root and the node are the halves of one subtree
pub record ArePair (depth half : ℕ) (rest : List Node) (left node : Node) : Type 0 where
  pub shape : HasShape rest (first_block_of (suc depth) half)
  pub at_left : left.index ≡ number depth (2 * half)
  pub at_node : node.index ≡ number depth (2 * half + 1)
  pub within : left.index ≤ MAX_NODE

pair_of : {depth offset : ℕ} {roots rest : List Node} {left node : Node} {all : ℕ} → IsClimbing depth offset roots node all → (half : ℕ) → offset ≡ 2 * half + 1
    → end_block_of depth offset ≤ MAX_BLOCKS → roots ≡ rest ++ left ∷ [] → ArePair depth half rest left node
pair_of {depth} {offset} {roots} {rest} {left} climbing half odd few popped =
    let shape : HasShape roots (first_block_of depth (2 * half + 1)) = subst (λ (o : ℕ). HasShape roots (first_block_of depth o)) odd climbing.shape in
    let last = take_last (λ n. n.index) (λ t. number t.depth t.offset) (full_roots_of (first_block_of depth (2 * half))) (subtree depth (2 * half)) rest left
    (full-left depth half) popped shape in
    let end : end_block_of depth (2 * half + 1) ≤ MAX_BLOCKS = subst (λ (o : ℕ). end_block_of depth o ≤ MAX_BLOCKS) odd few in
    record {
      shape = subst (HasShape rest) (sym (first-suc depth half)) last.0;
      at_left = last.1;
      at_node = climbing.index ∙ ap (number depth) odd;
      within = omega (arith, last.1, number_below depth (2 * half), halves_meet depth half, end_first depth (2 * half + 1), end);
    }

-- ---- one level up

IsClimbing-step : {depth offset half : ℕ} {roots rest : List Node} {left node above : Node} {all : ℕ} → IsClimbing depth offset roots node all
    → ArePair depth half rest left node → roots ≡ rest ++ left ∷ [] → above.index ≡ number (suc depth) half
    → above.size ≡ left.size + node.size → IsClimbing (suc depth) half rest above all
IsClimbing-step {rest = rest} {left = left} climbing pair popped index size = record {
  shape = pair.shape;
  index = index;
  bytes = omega (arith, climbing.bytes, ap bytes_under popped, sum_by_push (λ (n : Node). n.size) rest left, size);
}

HasClimbed-step : {values : Values} {depth offset half : ℕ} {trees : List Subtree} {roots rest made more : List Node} {node above : Node} (left : Node)
    → HasClimbed values depth offset trees roots node made → offset ≡ 2 * half + 1
    → values (suc depth) half ≡ parent_if (values depth (2 * half)) (values depth (2 * half + 1))
    → roots ≡ rest ++ left ∷ [] → more ≡ made ++ above ∷ [] → above.index ≡ number (suc depth) half → twig_of above ≡ parent_of (twig_of left) (twig_of node)
    → HasClimbed values (suc depth) half (trees ++ subtree (suc depth) half ∷ []) rest above more
HasClimbed-step {values} {depth} {offset} {half} {trees} {roots} {rest} {made} {node = node} {above} left climbed odd joins popped pushed index parent =
    let at_roots = subst (λ (o : ℕ). AreNodes values (full_roots_of (first_block_of depth o)) roots) odd climbed.at_roots in
    let before = full_roots_of (first_block_of depth (2 * half)) in
    let last = take_last Some (node_in values) before (subtree depth (2 * half)) rest left (full-left depth half) popped at_roots in
    let at_left = node_in-value values (subtree depth (2 * half)) left (sym last.1) in
    let at_right : values depth (2 * half + 1) ≡ Some (twig_of node) = ap (values depth) (sym odd) ∙ climbed.at_node in
    let here : values (suc depth) half ≡ Some (twig_of above) =
    joins ∙ ap (λ (v : Option Twig). parent_if v (values depth (2 * half + 1))) at_left ∙ ap (parent_if (Some (twig_of left))) at_right
    ∙ ap Some (sym parent) in
    record {
      at_roots = subst (λ (n : ℕ). AreNodes values (full_roots_of n) rest) (sym (first-suc depth half)) last.0;
      at_node = here;
      at_made = put_last Some (node_in values) trees (subtree (suc depth) half) made above refl pushed climbed.at_made
          (sym (node_in-is values (suc depth) half above index here));
    }

IsUnderWay-step : {tree : Subtree} {up : ℕ} {first left node above : Node} {old_roots roots rest old_made made more : List Node}
    → IsUnderWay tree up first node old_roots roots old_made made → offset_up tree up ≡ 2 * offset_up tree (up + 1) + 1
    → end_block_of (suc (depth_up tree up)) (offset_up tree (up + 1)) ≡ end_block_of tree.depth tree.offset
    → ArePair (depth_up tree up) (offset_up tree (up + 1)) rest left node → bytes_under old_roots + first.size ≤ MAX_CORE_BYTES
    → roots ≡ rest ++ left ∷ [] → more ≡ made ++ above ∷ []
    → above.index ≡ number (suc (depth_up tree up)) (offset_up tree (up + 1)) → twig_of above ≡ parent_of (twig_of left) (twig_of node)
    → IsUnderWay tree (up + 1) first above old_roots rest old_made more
IsUnderWay-step {tree} {up} {first} {left} {node} {above} {old_roots} {roots} {rest} {old_made} {made} {more} so_far odd ends pair few popped pushed at parent =
    let half = offset_up tree (up + 1) in
    let depth = depth_up tree up in
    let one_up : suc depth ≡ depth_up tree (up + 1) = omega arith in
    let size : above.size ≡ left.size + node.size = ap (λ (t : Twig). t.size) parent in
    let climbing : IsClimbing (suc depth) half rest above (bytes_under old_roots + first.size) = IsClimbing-step so_far.climbing pair popped at size in
    let small : SizeFits above = omega (arith, climbing.bytes, few) in
    record {
      climbing = subst (λ (d : ℕ). IsClimbing d half rest above (bytes_under old_roots + first.size)) one_up climbing;
      many = omega (arith, so_far.many, ap length popped, ap length pushed, length_push rest left, length_push made above);
      fit = λ old. subst (AllByRecursion SizeFits) (sym pushed) (sizes_fit-push made above (so_far.fit old) small);
      climbed = λ values trees joins value are.
          let next = HasClimbed-step left (so_far.climbed values trees joins value are) odd (joins depth half (omega arith) ends) popped pushed at parent in
          let there = subst (λ (d : ℕ). HasClimbed values d half ((trees ++ levels tree (up + 1)) ++ subtree d half ∷ []) rest above more) one_up next in
          let all : (trees ++ levels tree (up + 1)) ++ subtree (depth_up tree (up + 1)) half ∷ [] ≡ trees ++ levels tree (up + 1 + 1) =
          append_assoc trees (levels tree (up + 1)) (subtree (depth_up tree (up + 1)) half ∷ [])
          ∙ ap (λ (ts : List Subtree). trees ++ ts) (sym (levels-more tree (up + 1))) in
          subst (λ (ts : List Subtree). HasClimbed values (depth_up tree (up + 1)) half ts rest above more) all there;
    }

-- ---- the loop: as many levels as the offset has one bits at its end, and then the node becomes the last root

module _ {tree : Subtree} {up : ℕ} {first node : Node} {old_roots roots old_made made : List Node}
    (so_far : IsUnderWay tree up first node old_roots roots old_made made) (next : IsNext tree first old_roots)
    {count old_offset : ℕ} (counted : count ≡ trailing_ones w64 old_offset) (is : old_offset ≡ tree.offset) where
  abbrev depth : ℕ
  depth = depth_up tree up

  abbrev offset : ℕ
  offset = offset_up tree up

  abbrev half : ℕ
  half = offset_up tree (up + 1)

  fits : tree.offset + 1 < 2 ^ 64
  fits = omega (arith, next.within, offset_below tree.depth tree.offset)

  ones : count ≡ trailing_ones w64 tree.offset
  ones = counted ∙ ap (trailing_ones w64) is

  odd : up < count → offset ≡ 2 * half + 1
  odd below = odd_below tree fits up (omega (arith, ones, below))

  ends : up ≤ count → end_block_of depth offset ≡ end_block_of tree.depth tree.offset
  ends within = level_end tree fits up (omega (arith, ones, within))

  -- a half stands before the node
  pub some_root : up < count → 0 < length roots
  some_root below =
      let last = ap (λ (o : ℕ). length (full_roots_of (first_block_of depth o))) (odd below) ∙ ap length (full-left depth half) in
      let before = length_push (full_roots_of (first_block_of depth (2 * half))) (subtree depth (2 * half)) in
      omega (arith, many_roots (first_block_of depth offset) roots so_far.climbing.shape, last, before)

  pub pair_below : {rest : List Node} {left : Node} → up < count → roots ≡ rest ++ left ∷ [] → ArePair depth half rest left node
  pair_below below popped = pair_of so_far.climbing half (odd below) (omega (arith, ends (omega (arith, below)), next.within)) popped

  pub IsUnderWay-up : (left : Node) {rest more : List Node} {above : Node} → up < count → bytes_under old_roots + first.size ≤ MAX_CORE_BYTES
      → roots ≡ rest ++ left ∷ [] → more ≡ made ++ above ∷ []
      → ((d o : ℕ) → left.index ≡ number d (2 * o) → above.index ≡ number (d + 1) o) → twig_of above ≡ parent_of (twig_of left) (twig_of node)
      → IsUnderWay tree (up + 1) first above old_roots rest old_made more
  IsUnderWay-up left {rest} {above = above} below few popped pushed index parent =
      let pair : ArePair depth half rest left node = pair_below below popped in
      let at : above.index ≡ number (suc depth) half = index depth half pair.at_left ∙ ap (λ (d : ℕ). number d half) (add-one depth) in
      let above_ends : end_block_of (suc depth) half ≡ end_block_of tree.depth tree.offset =
      end-suc depth half ∙ ap (end_block_of depth) (sym (odd below)) ∙ ends (omega (arith, below)) in
      IsUnderWay-step so_far (odd below) above_ends pair few popped pushed at parent

  module _ (top : up ≡ count) where
    abbrev lower : List Subtree
    lower = full_roots_of (first_block_of depth offset)

    top_root : full_roots_of (end_block_of tree.depth tree.offset) ≡ lower ++ subtree depth offset ∷ []
    top_root =
        let even = even_top tree fits up (top ∙ ones) in
        let last : full_roots_of (end_block_of depth (2 * half)) ≡ full_roots_of (first_block_of depth (2 * half)) ++ subtree depth (2 * half) ∷ [] =
        ap full_roots_of (halves_meet depth half) ∙ full-left depth half in
        ap full_roots_of (sym (ends (omega (arith, top))))
        ∙ subst (λ (o : ℕ). full_roots_of (end_block_of depth o) ≡ full_roots_of (first_block_of depth o) ++ subtree depth o ∷ []) (sym even) last

    -- there is room for it
    pub room_at_top : length roots < MAX_ROOTS
    room_at_top =
        let most = length-full MAX_ROOTS (end_block_of tree.depth tree.offset) (omega arith) (omega (arith, next.within)) in
        omega (arith, many_roots (first_block_of depth offset) roots so_far.climbing.shape, ap length top_root, length_push lower (subtree depth offset), most)

    module _ {more : List Node} (pushed : more ≡ roots ++ node ∷ []) where
      pub Grows-top : bytes_under old_roots + first.size ≤ MAX_CORE_BYTES
          → Grows (end_block_of tree.depth tree.offset) first.size 1 old_roots more old_made made
      Grows-top small =
          let total = ap bytes_under pushed ∙ sum_by_push (λ (n : Node). n.size) roots node ∙ so_far.climbing.bytes in
          let at = so_far.climbing in
          record {
            shape = put_last (λ n. n.index) (λ t. number t.depth t.offset) lower (subtree depth offset) roots node top_root pushed at.shape at.index;
            bytes = total;
            many = omega (arith, so_far.many, ap length pushed, length_push roots node);
            roots_fit = sizes_fit more (omega (arith, total, small));
            made_fit = so_far.fit;
          }

      pub AddsTree-top : (values : Values) (trees : List Subtree) → AddsTree values trees tree first old_roots more old_made made
      AddsTree-top values trees joins value are =
          let climbed = so_far.climbed values trees joins value are in
          record {
            at_roots = put_last Some (node_in values) lower (subtree depth offset) roots node top_root pushed climbed.at_roots
                (sym (node_in-is values depth offset node so_far.climbing.index climbed.at_node));
            at_made = subst (λ (d : ℕ). AreNodes values (trees ++ levels tree (d + 1)) made) (top ∙ ones) climbed.at_made;
          }
