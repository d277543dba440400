-- The way up from a new leaf: at each level with a one the last root and the node are joined.
use Rattle.std.proofs.Common.{◌≡◌, ℕ, suc, ◌+◌, ◌-◌, ◌*◌, ◌/◌, ◌%◌, ◌^◌, ◌<◌, ◌≤◌, List, [], ◌∷◌, ◌++◌, length, Option, Some, Vec, vec_capacity, refl, sym, ◌∙◌, ap, subst, arith, add-one, append_assoc}
use Rattle.std.specs.declared.alloc.Global.{Global}
use Rattle.std.specs.List.{AllByRecursion}
use Rattle.std.specs.Int.{w64, trailing_ones}
use Rattle.std.proofs.Math.Nat.{pow-succ'}
use Rattle.std.proofs.lemmas.List.{length_push}
use Rattle.std.proofs.lemmas.List.Sums.{sum_by_push}
use Rattle.std.proofs.lemmas.Nat.{shr_split}
use Rattle.flat_tree.specs.Subtrees.{Subtree, subtree, number, first_block_of, end_block_of}
use Rattle.flat_tree.specs.Roots.{full_roots_of}
use Rattle.flat_tree.specs.declared.limits.TheConstants.{MAX_BLOCKS, MAX_ROOTS, MAX_NODE, MAX_CORE_BYTES}
use Rattle.flat_tree.proofs.NumberLemmas.{end_first, number_below}
use Rattle.flat_tree.proofs.RootLemmas.{start_of, start-one, root_end, length-full}
use Rattle.merkle_nodes.specs.declared.node.Node.{Node}
use Rattle.merkle_nodes.specs.declared.node.Twig.{Twig}
use Rattle.merkle_nodes.specs.Tree.{parent_of}
use Rattle.merkle_nodes.specs.Roots.{HasShape, twig_of}
use Rattle.merkle_nodes.specs.Joined.{Values, parent_if}
use Rattle.merkle_nodes.specs.Nodes.{node_in, AreNodes, bytes_under}
use Rattle.merkle_nodes.proofs.JoinedValues.{node_in-value, node_in-is}
use Rattle.merkle_batch.specs.Batch.{ending_with, SizeFits}
use Rattle.merkle_batch.specs.Growth.{JoinsAt, AreOf, Grows}
use Rattle.merkle_batch.proofs.FullRoots.{full-zero}
use Rattle.merkle_batch.proofs.Levels.{one_below, zero_top, levels, levels-more, higher_roots, half_before, left_offset, right_offset, last_root}
use Rattle.merkle_batch.proofs.NodeLists.{take_last, put_last, many_roots, sizes_fit-push, sizes_fit}

-- so many levels up: the node ends with the block, and the roots that aren't joined yet stand before it
pub record IsClimbing (block depth : ℕ) (roots : List Node) (node : Node) (all : ℕ) : Type 0 where
  pub ends : start_of depth block + 2 ^ depth ≡ block + 1
  pub shape : HasShape roots (start_of depth block)
  pub index : node.index ≡ number depth (block / 2 ^ depth)
  pub bytes : bytes_under roots + node.size ≡ all

-- the same of their values
pub record HasClimbed (values : Values) (trees : List Subtree) (block depth : ℕ) (roots : List Node) (node : Node) (nodes : List Node) : Type 0 where
  pub at_roots : AreNodes values (full_roots_of (start_of depth block)) roots
  pub at_node : values depth (block / 2 ^ depth) ≡ Some (twig_of node)
  pub at_nodes : AreNodes values (trees ++ levels block (depth + 1)) nodes

-- the loop so far: the roots and nodes at first, and those now
pub record IsUnderWay (block depth : ℕ) (leaf node : Node) (old_roots roots : List Node) (old_nodes nodes : Vec Node Global) : Type 0 where
  pub climbing : IsClimbing block depth roots node (bytes_under old_roots + leaf.size)
  pub many : length nodes.items + length roots ≡ length old_nodes.items + length old_roots + 1
  pub capacity : vec_capacity old_nodes ≤ vec_capacity nodes
  pub fit : AllByRecursion SizeFits old_nodes.items → AllByRecursion SizeFits nodes.items
  pub climbed : (values : Values) → (trees : List Subtree) → JoinsAt values block → values 0 block ≡ Some (twig_of leaf)
      → AreOf values block trees old_roots old_nodes.items → HasClimbed values trees block depth roots node nodes.items

-- ---- the two halves of the next node

-- a half stands before the node where the level has a one
pub some_root : {block depth : ℕ} {roots : List Node} {node : Node} {all : ℕ} → IsClimbing block depth roots node all → block < MAX_BLOCKS
    → depth < trailing_ones w64 block → 0 < length roots
some_root {block} {depth} {roots} climbing few below =
    let last = ap length (last_root block depth (one_below block depth few below)) in
    omega (arith, many_roots (start_of depth block) roots climbing.shape, last, length_push (higher_roots block depth) (half_before block depth))

-- the last root and the node are the halves of one subtree
pub record ArePair (block depth : ℕ) (rest : List Node) (left node : Node) : Type 0 where
  pub one : block / 2 ^ depth % 2 ≡ 1
  pub shape : HasShape rest (start_of (depth + 1) block)
  pub at_left : left.index ≡ number depth (2 * (block / 2 ^ (depth + 1)))
  pub at_node : node.index ≡ number depth (2 * (block / 2 ^ (depth + 1)) + 1)
  pub within : left.index ≤ MAX_NODE

pub pair_of : {block depth : ℕ} {roots rest : List Node} {left node : Node} {all : ℕ} → IsClimbing block depth roots node all → roots ≡ rest ++ left ∷ []
    → block < MAX_BLOCKS → depth < trailing_ones w64 block → ArePair block depth rest left node
pair_of {block} {depth} {rest = rest} {left = left} climbing popped few below =
    let one = one_below block depth few below in
    let half = half_before block depth in
    let last = take_last (λ n. n.index) (λ t. number t.depth t.offset) (higher_roots block depth) half rest left (last_root block depth one) popped climbing.shape in
    let offset = block / 2 ^ depth - 1 in
    let is : left.index ≡ number depth offset = last.1 ∙ ap (number depth) (sym (left_offset block depth one)) in
    record {
      one = one;
      shape = last.0;
      at_left = last.1;
      at_node = climbing.index ∙ ap (number depth) (right_offset block depth one);
      within = omega (arith, is, number_below depth offset, root_end depth block one, shr_split block depth, few);
    }

-- ---- one level up

IsClimbing-step : {block depth : ℕ} {roots rest : List Node} {left node above : Node} {all : ℕ} → IsClimbing block depth roots node all → ArePair block depth rest left node
    → roots ≡ rest ++ left ∷ [] → above.index ≡ number (depth + 1) (block / 2 ^ (depth + 1)) → above.size ≡ left.size + node.size → IsClimbing block (depth + 1) rest above all
IsClimbing-step {block} {depth} {rest = rest} {left = left} climbing pair popped index size =
    let up : start_of depth block ≡ start_of (depth + 1) block + 2 ^ depth = rw add-one (start-one depth block pair.one) in
    let wide : 2 ^ (depth + 1) ≡ 2 * 2 ^ depth = rw add-one (pow-succ' 2 depth) in
    record {
      ends = omega (arith, climbing.ends, up, wide);
      shape = pair.shape;
      index = index;
      bytes = omega (arith, climbing.bytes, ap bytes_under popped, sum_by_push (λ (n : Node). n.size) rest left, size);
    }

-- the node ends with the block
climbing_end : {block depth : ℕ} {roots : List Node} {node : Node} {all : ℕ} → IsClimbing block depth roots node all
    → end_block_of depth (block / 2 ^ depth) ≡ block + 1
unfolding first_block_of
climbing_end {block} {depth} climbing = end_first depth (block / 2 ^ depth) ∙ climbing.ends

-- the value of two halves' parent
joined_value : (values : Values) (block depth : ℕ) (left node above : Twig) → block / 2 ^ depth % 2 ≡ 1 → JoinsAt values block
    → end_block_of (depth + 1) (block / 2 ^ (depth + 1)) ≡ block + 1 → values depth (2 * (block / 2 ^ (depth + 1))) ≡ Some left
    → values depth (block / 2 ^ depth) ≡ Some node → above ≡ parent_of left node → values (depth + 1) (block / 2 ^ (depth + 1)) ≡ Some above
joined_value values block depth left node above one joins ends at_left at_node parent =
    let offset = block / 2 ^ (depth + 1) in
    let at_right : values depth (2 * offset + 1) ≡ Some node = ap (values depth) (sym (right_offset block depth one)) ∙ at_node in
    let ends_suc : end_block_of (suc depth) offset ≡ block + 1 = subst (λ (d : ℕ). end_block_of d offset ≡ block + 1) (add-one depth) ends in
    let halves = ap (λ (v : Option Twig). parent_if v (values depth (2 * offset + 1))) at_left ∙ ap (parent_if (Some left)) at_right in
    ap (λ (d : ℕ). values d offset) (add-one depth) ∙ joins depth offset ends_suc ∙ halves ∙ ap Some (sym parent)

HasClimbed-step : {values : Values} {trees : List Subtree} {block depth : ℕ} {roots rest nodes more : List Node} {left node above : Node} {all : ℕ}
    → HasClimbed values trees block depth roots node nodes → JoinsAt values block → ArePair block depth rest left node → IsClimbing block (depth + 1) rest above all
    → roots ≡ rest ++ left ∷ [] → more ≡ nodes ++ above ∷ [] → twig_of above ≡ parent_of (twig_of left) (twig_of node)
    → HasClimbed values trees block (depth + 1) rest above more
HasClimbed-step {values} {trees} {block} {depth} {rest = rest} {nodes = nodes} {left = left} {above = above} climbed joins pair climbing popped pushed parent =
    let offset = block / 2 ^ (depth + 1) in
    let half = half_before block depth in
    let last = take_last Some (node_in values) (higher_roots block depth) half rest left (last_root block depth pair.one) popped climbed.at_roots in
    let at_left = node_in-value values half left (sym last.1) in
    let here = joined_value values block depth _ _ _ pair.one joins (climbing_end climbing) at_left climbed.at_node parent in
    let so_far = trees ++ levels block (depth + 1) in
    let next = subtree (depth + 1) offset in
    let one_more : trees ++ levels block (depth + 1 + 1) ≡ so_far ++ next ∷ [] =
    ap (λ (ts : List Subtree). trees ++ ts) (levels-more block (depth + 1))
    ∙ sym (append_assoc trees (levels block (depth + 1)) (next ∷ [])) in
    let node_there = node_in-is values (depth + 1) offset above climbing.index here in
    record {
      at_roots = last.0;
      at_node = here;
      at_nodes = put_last Some (node_in values) so_far next nodes above one_more pushed climbed.at_nodes (sym node_there);
    }

-- what the loop does
pub IsUnderWay-step : {block depth : ℕ} {leaf left node above : Node} {old_roots roots rest : List Node} {old_nodes nodes more : Vec Node Global}
    → IsUnderWay block depth leaf node old_roots roots old_nodes nodes → ArePair block depth rest left node → bytes_under old_roots + leaf.size ≤ MAX_CORE_BYTES
    → roots ≡ rest ++ left ∷ [] → more.items ≡ nodes.items ++ above ∷ [] → vec_capacity more ≡ vec_capacity nodes
    → above.index ≡ number (depth + 1) (block / 2 ^ (depth + 1)) → twig_of above ≡ parent_of (twig_of left) (twig_of node)
    → IsUnderWay block (depth + 1) leaf above old_roots rest old_nodes more
IsUnderWay-step {block} {depth} {leaf} {left} {node} {above} {old_roots} {rest = rest} {nodes = nodes} so_far pair few popped pushed capacity index parent =
    let size : above.size ≡ left.size + node.size = ap (λ (t : Twig). t.size) parent in
    let climbing : IsClimbing block (depth + 1) rest above (bytes_under old_roots + leaf.size) = IsClimbing-step so_far.climbing pair popped index size in
    let small : SizeFits above = omega (arith, climbing.bytes, few) in
    record {
      climbing = climbing;
      many = omega (arith, so_far.many, ap length popped, ap length pushed, length_push rest left, length_push nodes.items above);
      capacity = omega (arith, so_far.capacity, capacity);
      fit = λ fits. subst (AllByRecursion SizeFits) (sym pushed) (sizes_fit-push nodes.items above (so_far.fit fits) small);
      climbed = λ values trees joins value are. HasClimbed-step (so_far.climbed values trees joins value are) joins pair climbing popped pushed parent;
    }

-- ---- the leaf alone

-- ---- the highest level, where the node becomes the last root

module _ {block depth : ℕ} {roots : List Node} {node : Node} {all : ℕ} (climbing : IsClimbing block depth roots node all) (few : block < MAX_BLOCKS)
    (top : depth ≡ trailing_ones w64 block) where
  abbrev lower : List Subtree
  lower = full_roots_of (start_of depth block)

  abbrev last : Subtree
  last = subtree depth (block / 2 ^ depth)

  top_root : full_roots_of (block + 1) ≡ lower ++ last ∷ []
  top_root = full-zero depth block (zero_top block depth few top) climbing.ends

  -- there is room for it
  pub room_at_top : length roots < MAX_ROOTS
  room_at_top =
      let one_more = ap length top_root in
      let most = length-full MAX_ROOTS (block + 1) (omega arith) (omega (arith, few)) in
      omega (arith, many_roots (start_of depth block) roots climbing.shape, one_more, length_push lower last, most)

  module _ {more : List Node} (pushed : more ≡ roots ++ node ∷ []) where
    HasShape-top : HasShape more (block + 1)
    HasShape-top = put_last (λ n. n.index) (λ t. number t.depth t.offset) lower last roots node top_root pushed climbing.shape climbing.index

    sizes_fit-top : all ≤ MAX_CORE_BYTES → AllByRecursion SizeFits more
    sizes_fit-top small =
        let total = ap bytes_under pushed in
        sizes_fit more (omega (arith, total, sum_by_push (λ (n : Node). n.size) roots node, climbing.bytes, small))

    pub AreOf-top : {values : Values} {trees : List Subtree} {nodes : List Node} → HasClimbed values trees block depth roots node nodes
        → AreOf values (block + 1) (trees ++ ending_with block) more nodes
    AreOf-top {values} {trees} {nodes} climbed =
        let node_there = node_in-is values depth (block / 2 ^ depth) node climbing.index climbed.at_node in
        record {
          at_roots = put_last Some (node_in values) lower last roots node top_root pushed climbed.at_roots (sym node_there);
          at_nodes = subst (λ (d : ℕ). AreNodes values (trees ++ levels block (d + 1)) nodes) top climbed.at_nodes;
        }

pub Grows-top : {block depth : ℕ} {leaf node : Node} {old_roots roots more : List Node} {old_nodes nodes : Vec Node Global}
    → IsUnderWay block depth leaf node old_roots roots old_nodes nodes → block < MAX_BLOCKS → depth ≡ trailing_ones w64 block → more ≡ roots ++ node ∷ []
    → bytes_under old_roots + leaf.size ≤ MAX_CORE_BYTES → Grows block leaf old_roots more old_nodes nodes
Grows-top {node = node} {roots = roots} so_far few top pushed small =
    let total = ap bytes_under pushed ∙ sum_by_push (λ (n : Node). n.size) roots node in
    record {
      shape = HasShape-top so_far.climbing few top pushed;
      bytes = total ∙ so_far.climbing.bytes;
      many = omega (arith, so_far.many, ap length pushed, length_push roots node);
      memory = so_far.capacity;
      roots_fit = sizes_fit-top so_far.climbing few top pushed small;
      nodes_fit = so_far.fit;
    }
