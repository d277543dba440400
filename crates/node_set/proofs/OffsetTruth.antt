-- Each held block of a content of a log stands at the sum of the sizes of the blocks before it, or inputs clash.
use Rattle.std.proofs.Common.{◌≡◌, ℕ, zero, suc, ◌+◌, ◌-◌, ◌*◌, ◌/◌, ◌%◌, ◌^◌, ◌≤◌, ◌==◌, if◌then◌else◌, inl, inr, true, List, [], ◌∷◌, length, take, map, slice_get, Some, refl, sym, ap, subst, ◌∙◌, arith}
use Rattle.std.specs.Prelude.{is_some}
use Rattle.std.proofs.lemmas.Bool.{cases_eq, eq-eqb}
use Rattle.std.proofs.lemmas.List.{length-take-le, take-take}
use Rattle.std.proofs.lemmas.List.Sums.{sum_by-cons}
use Rattle.flat_tree.specs.Subtrees.{Subtree, subtree, first_block_of, end_block_of, Tile}
use Rattle.flat_tree.specs.Roots.{full_roots_of, place_over, depth_over}
use Rattle.flat_tree.proofs.NumberLemmas.{end_first, first-suc, halves_meet, leaf}
use Rattle.flat_tree.proofs.RootLemmas.{tile-full, tile-get, tile-le}
use Rattle.flat_tree.proofs.OverLemmas.{root-over}
use Rattle.merkle_nodes.specs.declared.node.Node.{Node}
use Rattle.merkle_nodes.specs.declared.node.Twig.{Twig}
use Rattle.merkle_nodes.specs.Tree.{tree_of}
use Rattle.merkle_nodes.specs.Roots.{roots_of}
use Rattle.node_set.specs.Contents.{Content, held, twig_at, roots, bytes_under}
use Rattle.node_set.specs.Closure.{any_under}
use Rattle.node_set.specs.Offsets.{left_bytes, roots_left, offset_of}
use Rattle.node_set.specs.Whole.{IsSound}
use Rattle.node_set.specs.Evidence.{bytes_of, IsOf, OrClash, NodesAreOf, OffsetsAreOf}
use Rattle.node_set.proofs.EvidenceLemmas.{or_clash_then}
use Rattle.node_set.proofs.Stored.{left_ends, half_within, over-suc, any_under-held, pair_stored}
use Rattle.node_set.proofs.TreeSizes.{bytes_before, size_of_tree}
use Rattle.node_set.proofs.RootTruth.{root_of, twig_at-some, roots_are_of}
use Rattle.node_set.proofs.SizeTruth.{nodes_are_of}

-- the roots left of a place have the bytes before its first block
left_of_place : (log : List (List ℕ)) (trees : List Subtree) (from : ℕ) → Tile trees from (length log) → (place : ℕ) (tree : Subtree)
    → slice_get trees place ≡ Some tree
    → bytes_before log from + bytes_under (take place (map (root_of log) trees)) ≡ bytes_before log (first_block_of tree.depth tree.offset)
left_of_place log [] from tile place tree there = cc
left_of_place log (head ∷ trees) from tile zero tree there =
    let is : head ≡ tree = cc in
    let starts = ap (bytes_before log) (sym tile.0) in
    let same = ap (λ (t : Subtree). bytes_before log (first_block_of t.depth t.offset)) is in
    omega (arith, starts, same)
left_of_place log (head ∷ trees) from tile (suc place) tree there =
    let size = size_of_tree log head.depth head.offset (tile-le trees (end_block_of head.depth head.offset) (length log) tile.1) in
    let starts = ap (bytes_before log) tile.0 in
    let rest = left_of_place log trees (end_block_of head.depth head.offset) tile.1 place tree there in
    let more = sum_by-cons (λ (n : Node). n.size) (root_of log head) (take place (map (root_of log) trees)) in
    omega (arith, size, starts, rest, more)

-- where a subtree over a block is within a length, so is each lower one
pub path_within : (n index top levels depth : ℕ) → depth + levels ≡ top → end_block_of top (index / 2 ^ top) ≤ n → end_block_of depth (index / 2 ^ depth) ≤ n
path_within n index top zero depth meet inside =
    let same : top ≡ depth = omega (arith, meet) in
    subst (λ (d : ℕ). end_block_of d (index / 2 ^ d) ≤ n) same inside
path_within n index top (suc levels) depth meet inside =
    let higher = path_within n index top levels (suc depth) (omega (arith, meet)) inside in
    half_within depth (index / 2 ^ depth) n (subst (λ (o : ℕ). end_block_of (suc depth) o ≤ n) (sym (over-suc index depth)) higher)

module _ (m : Content) (log : List (List ℕ)) (sound : IsSound m) (is : IsOf m log) where
  -- the left sibling of a subtree over a held block has the bytes between it and their parent
  left_step : NodesAreOf m log → (depth offset : ℕ) → end_block_of (suc depth) (offset / 2) ≤ m.length → any_under (held m) (suc depth) (offset / 2) ≡ true
      → bytes_before log (first_block_of (suc depth) (offset / 2)) + (if offset % 2 == 1 then (twig_at m.node depth (offset - 1)).size else 0)
      ≡ bytes_before log (first_block_of depth offset)
  left_step nodes depth offset inside some =
      let half = offset / 2 in
      let own = (twig_at m.node depth (offset - 1)).size in
      let start = ap (bytes_before log) (first-suc depth half) in
      elim (cases_eq (offset % 2) 1) [
        | inl right ↦
            let is_right : offset ≡ 2 * half + 1 = omega (arith, right) in
            let before : offset - 1 ≡ 2 * half = omega (arith, right) in
            let taken : (if offset % 2 == 1 then own else 0) ≡ own = rw (eq-eqb (offset % 2) 1 right) refl in
            let pair = pair_stored m sound.closed depth half inside some in
            let stored = ap (twig_at m.node depth) before ∙ twig_at-some m.node depth (2 * half) pair.left pair.at_left in
            let size : own ≡ (tree_of log depth (2 * half)).size = ap (λ (t : Twig). t.size) (stored ∙ nodes depth (2 * half) pair.left pair.at_left) in
            let whole = size_of_tree log depth (2 * half) (omega (arith, inside, is.long, left_ends depth half)) in
            let end = ap (bytes_before log) (halves_meet depth half ∙ ap (first_block_of depth) (sym is_right)) in
            omega (arith, taken, size, start, whole, end)
        | inr left ↦
            let even : offset % 2 ≡ 0 = omega (arith, left) in
            let is_left : 2 * half ≡ offset = omega (arith, even) in
            let none : (if offset % 2 == 1 then own else 0) ≡ 0 = rw even refl in
            let same = ap (λ (o : ℕ). bytes_before log (first_block_of depth o)) is_left in
            omega (arith, none, start, same)
      ]

  -- so many levels down from a subtree over a held block
  left_of_path : NodesAreOf m log → (index top levels depth : ℕ) → held m index ≡ true → depth + levels ≡ top → end_block_of top (index / 2 ^ top) ≤ m.length
      → bytes_before log (first_block_of top (index / 2 ^ top)) + left_bytes levels m.node depth (index / 2 ^ depth)
      ≡ bytes_before log (first_block_of depth (index / 2 ^ depth))
  unfolding left_bytes
  left_of_path nodes index top zero depth there meet inside =
      let same : top ≡ depth = omega (arith, meet) in
      let start = ap (λ (d : ℕ). bytes_before log (first_block_of d (index / 2 ^ d))) same in
      omega (arith, start)
  left_of_path nodes index top (suc levels) depth there meet inside =
      let offset = index / 2 ^ depth in
      let next : suc depth + levels ≡ top = omega (arith, meet) in
      let start = bytes_before log (first_block_of top (index / 2 ^ top)) in
      let above = left_of_path nodes index top levels (suc depth) there next inside in
      let higher : start + left_bytes levels m.node (suc depth) (offset / 2) ≡ bytes_before log (first_block_of (suc depth) (offset / 2)) =
      subst (λ (o : ℕ). start + left_bytes levels m.node (suc depth) o ≡ bytes_before log (first_block_of (suc depth) o)) (sym (over-suc index depth)) above in
      let parent_within : end_block_of (suc depth) (offset / 2) ≤ m.length =
      subst (λ (o : ℕ). end_block_of (suc depth) o ≤ m.length) (sym (over-suc index depth)) (path_within m.length index top levels (suc depth) next inside) in
      let under : any_under (held m) (suc depth) (offset / 2) ≡ true =
      subst (λ (o : ℕ). any_under (held m) (suc depth) o ≡ true) (sym (over-suc index depth)) (any_under-held (held m) index (suc depth) there) in
      let step = left_step nodes depth offset parent_within under in
      omega (arith, higher, step)

  -- a held block stands at the bytes before it, where all nodes are the log's
  pub offset_is_of : NodesAreOf m log → roots m ≡ roots_of (take m.length log) → (index : ℕ) (bytes : List ℕ) → m.block index ≡ Some bytes
      → offset_of m index ≡ bytes_before log index
  offset_is_of nodes same index bytes there =
      let n = m.length in
      let first = take n log in
      let count : length first ≡ n = length-take-le n log is.long in
      let place = place_over n index in
      let top = depth_over n index in
      let tree = subtree top (index / 2 ^ top) in
      let over = root-over n index (sound.blocks.below index bytes there) in
      let inside : end_block_of top (index / 2 ^ top) ≤ n = (tile-get (full_roots_of n) 0 n (tile-full n) place tree over).1 in
      let over_first : slice_get (full_roots_of (length first)) place ≡ Some tree = ap (λ (k : ℕ). slice_get (full_roots_of k) place) count ∙ over in
      let left = left_of_place first (full_roots_of (length first)) 0 (tile-full (length first)) place tree over_first in
      let begins : bytes_before first (first_block_of top (index / 2 ^ top)) ≡ bytes_before log (first_block_of top (index / 2 ^ top)) =
      ap bytes_of (take-take (first_block_of top (index / 2 ^ top)) n log (omega (arith, inside, end_first top (index / 2 ^ top)))) in
      let own_left : roots_left m index ≡ bytes_under (take place (roots_of first)) = ap (λ (ns : List Node). bytes_under (take place ns)) same in
      let path = left_of_path nodes index top top 0 (ap is_some there) (omega arith) inside in
      let leaf_is : index / 2 ^ 0 ≡ index = omega arith in
      let bytes_left = ap (left_bytes top m.node 0) leaf_is in
      let here = ap (bytes_before log) (ap (first_block_of 0) leaf_is ∙ (leaf index).1) in
      omega (arith, left, begins, own_left, path, bytes_left, here)

  -- all held blocks do
  pub offsets_are_of : OrClash (OffsetsAreOf m log) m log
  offsets_are_of = or_clash_then (nodes_are_of m log sound is) (λ nodes. or_clash_then (roots_are_of m log sound is) (λ same. inl (offset_is_of nodes same)))
