-- The honest bundle of a block: its trail folds to the root over the block, and it is within the limits of a bundle.
use Rattle.std.proofs.Common.{◌≡◌, ℕ, zero, suc, Bool, ◌+◌, ◌-◌, ◌*◌, ◌/◌, ◌%◌, ◌^◌, ◌<◌, ◌≤◌, inl, inr, List, [], ◌∷◌, length, get_or, take, map, Some, Result, Ok, Err, refl, sym, ◌∙◌, ap, subst, arith, add-one}
use Rattle.std.specs.List.{range_with_len, AllByRecursion}
use Rattle.std.specs.Result.{IsOkAnd}
use Rattle.std.proofs.lemmas.Bool.{cases_eq, eq-eqb}
use Rattle.std.proofs.lemmas.List.{length-map, take_more}
use Rattle.std.proofs.lemmas.List.Sums.{sum_by_push, sum_by-take-le}
use Rattle.std.proofs.lemmas.List.FromFn.{length-range_with_len}
use Rattle.std.proofs.lemmas.Option.{slice_get-get_or}
use Rattle.std.proofs.lemmas.Nat.{shr-shr}
use Rattle.flat_tree.specs.Subtrees.{Subtree, number, numbers_of, first_block_of, end_block_of}
use Rattle.flat_tree.specs.Roots.{full_roots_of, depth_over}
use Rattle.flat_tree.specs.declared.limits.TheConstants.{MAX_CORE_BYTES}
use Rattle.flat_tree.proofs.NumberLemmas.{leaf, first-suc, end-suc, halves_meet}
use Rattle.flat_tree.proofs.RootLemmas.{tile-full}
use Rattle.merkle_nodes.specs.declared.node.Node.{Node}
use Rattle.merkle_nodes.specs.declared.node.Twig.{Twig}
use Rattle.merkle_nodes.specs.Tree.{parent_of, tree_of}
use Rattle.merkle_nodes.specs.Roots.{node_of}
use Rattle.merkle_nodes.specs.Fold.{join, fold, fold_from}
use Rattle.merkle_nodes.specs.Bundle.{NodeFits, TwigFits, Fits, spelling}
use Rattle.merkle_nodes.specs.declared.check.Opened.{Opened}
use Rattle.merkle_nodes.specs.declared.check.BundleFault.{BundleFault}
use Rattle.merkle_nodes.specs.Check.{BlockProved, HeadAccepted, Opens}
use Rattle.merkle_nodes.proofs.Descent.{tree_has_hash, half_ends}
use Rattle.merkle_nodes.proofs.JoinedValues.{EndBy, EndBy-tile}
use Rattle.merkle_nodes.proofs.Soundness.{log_root}
use Rattle.merkle_nodes.proofs.Accepted.{accepted_opens}
use Rattle.merkle_batch.specs.Batch.{bytes_of}
use Rattle.merkle_batch.specs.Honest.{sibling_of, sibling_at, trail_of, honest_bundle, IsSigned, BlockFits, AppendFits, LogFits, OpensBlock, IsOpened}

-- ---- the fold

-- a right child stands right in its parent, and a left one left
join_right : (offset : ℕ) (node sibling : Twig) → offset % 2 ≡ 1 → join offset node sibling ≡ parent_of sibling node
join_right offset node sibling right = rw (eq-eqb (offset % 2) 1 right) refl

join_left : (offset : ℕ) (node sibling : Twig) → offset % 2 ≡ 0 → join offset node sibling ≡ parent_of node sibling
join_left offset node sibling left = rw left refl

-- a node and its sibling join to their parent
join_tree : (log : List (List ℕ)) (depth offset : ℕ)
    → join offset (tree_of log depth offset) (tree_of log depth (sibling_of offset)) ≡ tree_of log (suc depth) (offset / 2)
unfolding tree_of
join_tree log depth offset = elim (cases_eq (offset % 2) 1) [
  | inl right ↦
      let own : offset ≡ 2 * (offset / 2) + 1 = omega (arith, right) in
      let other : sibling_of offset ≡ 2 * (offset / 2) = omega (arith, right) in
      join_right offset (tree_of log depth offset) (tree_of log depth (sibling_of offset)) right
      ∙ ap (λ (o : ℕ). parent_of (tree_of log depth o) (tree_of log depth offset)) other
      ∙ ap (λ (o : ℕ). parent_of (tree_of log depth (2 * (offset / 2))) (tree_of log depth o)) own
  | inr left ↦
      let none : offset % 2 ≡ 0 = omega (arith, left) in
      let own : offset ≡ 2 * (offset / 2) = omega (arith, none) in
      let other : sibling_of offset ≡ 2 * (offset / 2) + 1 = omega (arith, none) in
      join_left offset (tree_of log depth offset) (tree_of log depth (sibling_of offset)) none
      ∙ ap (λ (o : ℕ). parent_of (tree_of log depth offset) (tree_of log depth o)) other
      ∙ ap (λ (o : ℕ). parent_of (tree_of log depth o) (tree_of log depth (2 * (offset / 2) + 1))) own
]

pub half : (index depth : ℕ) → index / 2 ^ depth / 2 ≡ index / 2 ^ (depth + 1)
half index depth = shr-shr index depth 1

-- the siblings of so many levels fold to the tree above
fold_levels : (log : List (List ℕ)) (index depth levels : ℕ)
    → fold_from (index / 2 ^ depth) (tree_of log depth (index / 2 ^ depth)) (map (sibling_at log index) (range_with_len depth levels))
    ≡ tree_of log (depth + levels) (index / 2 ^ (depth + levels))
unfolding fold_from
fold_levels log index depth zero = let same : depth ≡ depth + 0 = omega arith in ap (λ (d : ℕ). tree_of log d (index / 2 ^ d)) same
fold_levels log index depth (suc levels) =
    let offset = index / 2 ^ depth in
    let trail = map (sibling_at log index) (range_with_len (depth + 1) levels) in
    let up : join offset (tree_of log depth offset) (sibling_at log index depth) ≡ tree_of log (depth + 1) (index / 2 ^ (depth + 1)) =
    join_tree log depth offset ∙ ap (λ (d : ℕ). tree_of log d (offset / 2)) (sym (add-one depth)) ∙ ap (tree_of log (depth + 1)) (half index depth) in
    let same : depth + 1 + levels ≡ depth + suc levels = omega arith in
    ap (λ (node : Twig). fold_from (offset / 2) node trail) up
    ∙ ap (λ (o : ℕ). fold_from o (tree_of log (depth + 1) (index / 2 ^ (depth + 1))) trail) (half index depth)
    ∙ fold_levels log index (depth + 1) levels
    ∙ ap (λ (d : ℕ). tree_of log d (index / 2 ^ d)) same

-- the trail of a block folds to the root over it
fold_trail : (log : List (List ℕ)) (index depth : ℕ)
    → fold index (get_or log index []) (map (sibling_at log index) (range_with_len 0 depth)) ≡ tree_of log depth (index / 2 ^ depth)
unfolding tree_of
fold_trail log index depth =
    let whole : index / 2 ^ 0 ≡ index = omega arith in
    let trail = map (sibling_at log index) (range_with_len 0 depth) in
    let all : 0 + depth ≡ depth = omega arith in
    ap (λ (o : ℕ). fold_from o (tree_of log 0 o) trail) (sym whole) ∙ fold_levels log index 0 depth ∙ ap (λ (d : ℕ). tree_of log d (index / 2 ^ d)) all

-- ---- the sizes

-- the bytes before a subtree and its size are those before its end
tree_bytes : (log : List (List ℕ)) (depth offset : ℕ) → end_block_of depth offset ≤ length log
    → bytes_of (take (first_block_of depth offset) log) + (tree_of log depth offset).size ≡ bytes_of (take (end_block_of depth offset) log)
unfolding tree_of
tree_bytes log zero offset within =
    let less : offset < length log = omega (arith, within, leaf offset) in
    let block = get_or log offset [] in
    let all : bytes_of (take (offset + 1) log) ≡ bytes_of (take offset log) + length block =
    ap bytes_of (take_more log offset [] less) ∙ sum_by_push length (take offset log) block in
    let first = ap (λ (n : ℕ). bytes_of (take n log) + length block) (leaf offset).1 in
    first ∙ sym all ∙ ap (λ (n : ℕ). bytes_of (take n log)) (sym (leaf offset).2)
tree_bytes log (suc depth) offset within =
    let left = tree_bytes log depth (2 * offset) (omega (arith, within, half_ends depth offset)) in
    let right = tree_bytes log depth (2 * offset + 1) (omega (arith, within, end-suc depth offset)) in
    let first = ap (λ (n : ℕ). bytes_of (take n log)) (first-suc depth offset) in
    let middle = ap (λ (n : ℕ). bytes_of (take n log)) (halves_meet depth offset) in
    let end = ap (λ (n : ℕ). bytes_of (take n log)) (end-suc depth offset) in
    omega (arith, left, right, first, middle, end)

-- no tree has more bytes than the log
pub tree_size : (log : List (List ℕ)) (depth offset : ℕ) → end_block_of depth offset ≤ length log → (tree_of log depth offset).size ≤ bytes_of log
tree_size log depth offset within = omega (arith, tree_bytes log depth offset within, sum_by-take-le length log (end_block_of depth offset))

tree_fits : (log : List (List ℕ)) (depth offset : ℕ) → bytes_of log ≤ MAX_CORE_BYTES → end_block_of depth offset ≤ length log
    → TwigFits (tree_of log depth offset)
tree_fits log depth offset few within = record { size = omega (arith, few, tree_size log depth offset within); hash = tree_has_hash log depth offset }

roots_fit : (log : List (List ℕ)) → bytes_of log ≤ MAX_CORE_BYTES → (trees : List Subtree) → EndBy (length log) trees
    → AllByRecursion NodeFits (map (λ (tree : Subtree). node_of tree.depth tree.offset (tree_of log tree.depth tree.offset)) trees)
roots_fit log few [] ends = tt
roots_fit log few (tree ∷ trees) ends =
    let fits = tree_fits log tree.depth tree.offset few ends.0 in
    (record { size = fits.size; hash = fits.hash }, roots_fit log few trees ends.1)

-- ---- the path

-- a half ends no later than its parent
left_ends : (depth offset above : ℕ) → offset ≡ 2 * above → end_block_of depth offset ≤ end_block_of (depth + 1) above
left_ends depth offset above is = rw (is, add-one) (half_ends depth above)

right_ends : (depth offset above : ℕ) → offset ≡ 2 * above + 1 → end_block_of depth offset ≤ end_block_of (depth + 1) above
right_ends depth offset above is = omega (arith, ap (end_block_of depth) is, ap (λ (d : ℕ). end_block_of d above) (add-one depth), end-suc depth above)

-- so do a node and its sibling
half_within : (index depth : ℕ) → (end_block_of depth (index / 2 ^ depth) ≤ end_block_of (depth + 1) (index / 2 ^ (depth + 1)))
    × (end_block_of depth (sibling_of (index / 2 ^ depth)) ≤ end_block_of (depth + 1) (index / 2 ^ (depth + 1)))
half_within index depth =
    let offset = index / 2 ^ depth in
    let above = index / 2 ^ (depth + 1) in
    elim (cases_eq (offset % 2) 1) [
      | inl right ↦
          let own : offset ≡ 2 * above + 1 = omega (arith, right, half index depth) in
          let other : sibling_of offset ≡ 2 * above = omega (arith, right, half index depth) in
          (right_ends depth offset above own, left_ends depth (sibling_of offset) above other)
      | inr left ↦
          let own : offset ≡ 2 * above = omega (arith, left, half index depth) in
          let other : sibling_of offset ≡ 2 * above + 1 = omega (arith, left, half index depth) in
          (left_ends depth offset above own, right_ends depth (sibling_of offset) above other)
    ]

-- where the path of a block ends at a depth
abbrev path_end : ℕ → ℕ → ℕ
path_end index depth = end_block_of depth (index / 2 ^ depth)

-- no earlier further up
ends_rise : (index depth levels : ℕ) → path_end index depth ≤ path_end index (depth + levels)
ends_rise index depth zero = let same : depth ≡ depth + 0 = omega arith in subst (λ (d : ℕ). path_end index depth ≤ path_end index d) same (omega arith)
ends_rise index depth (suc levels) =
    let same : depth + 1 + levels ≡ depth + suc levels = omega arith in
    let further = subst (λ (d : ℕ). path_end index (depth + 1) ≤ path_end index d) same (ends_rise index (depth + 1) levels) in
    omega (arith, (half_within index depth).0, further)

-- a path is within the root over the block
pub path_within : (log : List (List ℕ)) (index depth : ℕ) → index < length log → depth ≤ depth_over (length log) index
    → end_block_of depth (index / 2 ^ depth) ≤ length log
path_within log index depth less below =
    let top = depth_over (length log) index in
    let same : depth + (top - depth) ≡ top = omega (arith, below) in
    let rise = subst (λ (d : ℕ). path_end index depth ≤ path_end index d) same (ends_rise index depth (top - depth)) in
    omega (arith, rise, (log_root log index top less refl).1)

-- so are its siblings
pub sibling_within : (log : List (List ℕ)) (index depth : ℕ) → index < length log → depth < depth_over (length log) index
    → end_block_of depth (sibling_of (index / 2 ^ depth)) ≤ length log
sibling_within log index depth less below = omega (arith, (half_within index depth).1, path_within log index (depth + 1) less (omega (arith, below)))

trail_fits : (log : List (List ℕ)) (index : ℕ) → bytes_of log ≤ MAX_CORE_BYTES → index < length log → (from levels : ℕ)
    → from + levels ≤ depth_over (length log) index → AllByRecursion TwigFits (map (sibling_at log index) (range_with_len from levels))
trail_fits log index few less from zero within = tt
trail_fits log index few less from (suc levels) within = (
  tree_fits log from (sibling_of (index / 2 ^ from)) few (sibling_within log index from less (omega (arith, within))),
  trail_fits log index few less (from + 1) levels (omega (arith, within)),
)

-- ---- the bundle

shape_of : (log : List (List ℕ)) (trees : List Subtree)
    → map (λ (node : Node). node.index) (map (λ (tree : Subtree). node_of tree.depth tree.offset (tree_of log tree.depth tree.offset)) trees) ≡ numbers_of trees
shape_of log [] = refl
shape_of log (tree ∷ trees) = ap (λ (ns : List ℕ). number tree.depth tree.offset ∷ ns) (shape_of log trees)

pub block_fits : (log : List (List ℕ)) (index : ℕ) → AllByRecursion BlockFits log → index < length log → BlockFits (get_or log index [])
block_fits [] index fits less = absurd (omega (arith, less))
block_fits (block ∷ log) zero fits less = fits.0
block_fits (block ∷ log) (suc index) fits less = block_fits log index fits.1 (omega (arith, less))

-- what one append adds keeps the limits of a core
pub AppendFits-log : (log : List (List ℕ)) → AppendFits log → LogFits log
AppendFits-log log fits = record { few = omega (arith, fits.few); blocks = fits.fit; bytes = omega (arith, fits.bytes) }

-- what is opened of the bundle is the block
opened_block : (log : List (List ℕ)) (index : ℕ) (signature : List ℕ) → index < length log → (answer : Result Opened BundleFault)
    → IsOkAnd answer (λ opened. Opens (honest_bundle log index signature) (spelling (honest_bundle log index signature)) opened)
    → IsOkAnd answer (OpensBlock log index (spelling (honest_bundle log index signature)))
opened_block log index signature less (Ok opened) opens = (opens.index, slice_get-get_or log index [] less ∙ ap Some (sym opens.block))
opened_block log index signature less (Err fault) opens = absurd opens

module _ (log : List (List ℕ)) (index : ℕ) (signature : List ℕ) (less : index < length log) where
  long_trail : length (trail_of log index) ≡ depth_over (length log) index
  long_trail = length-map (range_with_len 0 (depth_over (length log) index)) (sibling_at log index) ∙ length-range_with_len 0 (depth_over (length log) index)

  pub honest_fits : LogFits log → length signature ≡ 64 → Fits (honest_bundle log index signature)
  honest_fits fits wide = record {
    start = record { fork = omega arith; some = omega (arith, less); few = fits.few; index = less; signature = wide };
    shape = shape_of log (full_roots_of (length log));
    roots = roots_fit log fits.bytes (full_roots_of (length log)) (EndBy-tile _ 0 (length log) (tile-full (length log)));
    path = long_trail;
    trail = trail_fits log index fits.bytes less 0 (depth_over (length log) index) (omega arith);
    block = block_fits log index fits.blocks less;
  }

  pub honest_proved : BlockProved (honest_bundle log index signature)
  honest_proved =
      let top = depth_over (length log) index in
      record {
        within = less;
        shape = shape_of log (full_roots_of (length log));
        path = long_trail;
        root = node_of top (index / 2 ^ top) (tree_of log top (index / 2 ^ top));
        over = (log_root log index top less refl).0;
        folds = fold_trail log index top;
      }

  pub honest_opens : (accepts : List ℕ → List ℕ → Bool) → LogFits log → IsSigned accepts log signature → IsOpened accepts log index signature
  honest_opens accepts fits signed =
      let bundle = honest_bundle log index signature in
      let all = honest_fits fits signed.wide in
      let head : HeadAccepted accepts bundle = record { shape = shape_of log (full_roots_of (length log)); accepted = signed.accepted } in
      record {
        fits = all;
        proved = honest_proved;
        accepted = head;
        answers = λ answer checks. opened_block log index signature less answer (accepted_opens accepts bundle all honest_proved head answer checks);
      }
