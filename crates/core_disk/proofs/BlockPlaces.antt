-- Where the held blocks of a content stand: each at the sum of the nodes that tile the log before it; and it stays there.
use Rattle.std.proofs.Common.{◌≡◌, ℕ, zero, suc, Bool, true, ◌+◌, ◌-◌, ◌/◌, ◌%◌, ◌^◌, ◌<◌, ◌≤◌, inl, inr, List, [], ◌∷◌, ◌++◌, length, take, map, slice_get, Some, refl, sym, ap, subst, ◌∙◌, arith}
use Rattle.std.specs.Prelude.{is_some}
use Rattle.std.proofs.lemmas.Bool.{cases_lt, eq-eqb}
use Rattle.std.proofs.lemmas.List.Sums.{sum_by-cons, sum_by-append}
use Rattle.flat_tree.specs.Subtrees.{Subtree, subtree, first_block_of, end_block_of, Tile}
use Rattle.flat_tree.specs.Roots.{FallBelow, roots_below, full_roots_of, place_over, depth_over}
use Rattle.flat_tree.specs.Covers.{cover_of}
use Rattle.flat_tree.proofs.RootLemmas.{digit, roots-one, roots-zero, tile-roots, fall-roots, fall_any, only-full, tile-full}
use Rattle.flat_tree.proofs.CoverLemmas.{cover-full, IsLargest, cover-some, cover-none}
use Rattle.flat_tree.proofs.OverLemmas.{root-over}
use Rattle.merkle_nodes.specs.declared.node.Node.{Node}
use Rattle.merkle_nodes.specs.Tree.{leaf_of}
use Rattle.node_set.specs.Contents.{Content, Blocks, Values, holds, held, node_at, roots_at, roots, bytes_under}
use Rattle.node_set.specs.Closure.{in_closure, IsFullRoot}
use Rattle.node_set.specs.Offsets.{left_step, left_bytes, offset_of}
use Rattle.node_set.specs.Whole.{IsSound}
use Rattle.node_set.specs.Changes.{content_on}
use Rattle.node_set.proofs.ClosureLemmas.{span_some, inside_up, held-any_under, root_in_closure, halves_in_closure}
use Rattle.node_set.proofs.CoverLemmas.{tile-append}
use Rattle.node_set.proofs.CoverSums.{sum_over, AddsUp, sum_cover-split}
use Rattle.node_set.proofs.SoundLemmas.{size_of, size_stored, closed_in, roots_same, bytes_of_roots, size_halves, complete_of}
use Rattle.node_set.proofs.Stored.{over-suc}

-- ---- the roots left of a block, and the left siblings of its path, are the full roots of its index

-- the subtrees before a place of a tiling tile up to the one there
tile_take : (trees : List Subtree) (from to : ℕ) → Tile trees from to → (place : ℕ) (tree : Subtree) → slice_get trees place ≡ Some tree
    → Tile (take place trees) from (first_block_of tree.depth tree.offset)
tile_take [] from to tile place tree there = cc
tile_take (head ∷ trees) from to tile zero tree there =
    let is : head ≡ tree = cc in
    sym tile.0 ∙ ap (λ (t : Subtree). first_block_of t.depth t.offset) is
tile_take (head ∷ trees) from to tile (suc place) tree there = (tile.0, tile_take trees _ to tile.1 place tree there)

-- those before a place, and smaller ones than the one there, fall
fall_take : (bound : ℕ) (trees rest : List Subtree) → FallBelow bound trees → (place : ℕ) (tree : Subtree) → slice_get trees place ≡ Some tree
    → FallBelow tree.depth rest → FallBelow bound (take place trees ++ rest)
fall_take bound [] rest falls place tree there small = cc
fall_take bound (head ∷ trees) rest falls zero tree there small =
    let is : head ≡ tree = cc in
    let less : tree.depth < bound = subst (λ (t : Subtree). t.depth < bound) is falls.0 in
    higher rest less small
  where
    higher : (rest : List Subtree) → tree.depth < bound → FallBelow tree.depth rest → FallBelow bound rest
    higher [] less small = tt
    higher (x ∷ rest) less small = (omega (arith, less, small.0), small.1)
fall_take bound (head ∷ trees) rest falls (suc place) tree there small = (falls.0, fall_take head.depth trees rest falls.1 place tree there small)

-- the roots left of the one over a block and the roots of the index's digits below its depth
cut_roots : (n index : ℕ) → index < n → take (place_over n index) (full_roots_of n) ++ roots_below (depth_over n index) index ≡ full_roots_of index
unfolding full_roots_of first_block_of
cut_roots n index less =
    let place = place_over n index in
    let top = depth_over n index in
    let tree = subtree top (index / 2 ^ top) in
    let over = root-over n index less in
    let front : Tile (take place (full_roots_of n)) 0 (first_block_of top (index / 2 ^ top)) =
    tile_take (full_roots_of n) 0 n (tile-full n) place tree over in
    let back : Tile (roots_below top index) (first_block_of top (index / 2 ^ top)) index = tile-roots top index in
    let falls = fall_take n (full_roots_of n) (roots_below top index) (fall-roots n n) place tree over (fall-roots top index) in
    only-full index (take place (full_roots_of n) ++ roots_below top index)
    (tile-append (take place (full_roots_of n)) (roots_below top index) 0 (first_block_of top (index / 2 ^ top)) index front back)
    (fall_any n (take place (full_roots_of n) ++ roots_below top index) falls)

-- ---- sums

-- the bytes under the roots before a place are the sizes of their subtrees
sum_taken : (value : Values) (place : ℕ) (trees : List Subtree)
    → bytes_under (take place (map (λ (tree : Subtree). node_at value tree.depth tree.offset) trees)) ≡ sum_over (size_of value) (take place trees)
sum_taken value zero trees = refl
sum_taken value (suc place) [] = refl
sum_taken value (suc place) (tree ∷ trees) =
    omega (
      arith,
      sum_by-cons (λ (node : Node). node.size) (node_at value tree.depth tree.offset)
          (take place (map (λ (t : Subtree). node_at value t.depth t.offset) trees)),
      sum_by-cons (λ (t : Subtree). size_of value t.depth t.offset) tree (take place trees),
      sum_taken value place trees,
    )

-- a left sibling on the path is the root of the index's digit
left_one : (value : Values) (index depth : ℕ)
    → left_step value depth (index / 2 ^ depth) + sum_over (size_of value) (roots_below depth index) ≡ sum_over (size_of value) (roots_below (suc depth) index)
left_one value index depth =
    let offset = index / 2 ^ depth in
    elim (digit depth index) [
      | inl one ↦
          let taken : left_step value depth offset ≡ size_of value depth (offset - 1) = rw (eq-eqb (offset % 2) 1 one) refl in
          let more = ap (sum_over (size_of value)) (roots-one depth index one) in
          let split = sum_by-cons (λ (t : Subtree). size_of value t.depth t.offset) (subtree depth (offset - 1)) (roots_below depth index) in
          omega (arith, taken, more, split)
      | inr even ↦
          let none : left_step value depth offset ≡ 0 = rw even refl in
          let same = ap (sum_over (size_of value)) (roots-zero depth index even) in
          omega (arith, none, same)
    ]

-- so the left siblings of the path are the roots of its lower digits
left_sum : (value : Values) (index top levels depth : ℕ) → depth + levels ≡ top
    → left_bytes levels value depth (index / 2 ^ depth) + sum_over (size_of value) (roots_below depth index) ≡ sum_over (size_of value) (roots_below top index)
unfolding left_bytes
left_sum value index top zero depth meet =
    let same : depth ≡ top = omega (arith, meet) in
    let all = ap (λ (d : ℕ). sum_over (size_of value) (roots_below d index)) same in
    omega (arith, all)
left_sum value index top (suc levels) depth meet =
    let rest = left_sum value index top levels (suc depth) (omega (arith, meet)) in
    let above = ap (left_bytes levels value (suc depth)) (over-suc index depth) in
    let here = left_one value index depth in
    omega (arith, rest, above, here)

-- a block's offset is the sum of the sizes of the full roots of its index
pub offset_is_sum : (m : Content) (index : ℕ) → index < m.length → offset_of m index ≡ bytes_under (roots_at m.node index)
unfolding roots_below
offset_is_sum m index less =
    let n = m.length in
    let top = depth_over n index in
    let size = size_of m.node in
    let front = take (place_over n index) (full_roots_of n) in
    let left = sum_taken m.node (place_over n index) (full_roots_of n) in
    let path = left_sum m.node index top top 0 (omega arith) in
    let leaf_is : index / 2 ^ 0 ≡ index = omega arith in
    let bytes_left = ap (left_bytes top m.node 0) leaf_is in
    let split = sum_by-append (λ (t : Subtree). size t.depth t.offset) front (roots_below top index) in
    let cut = ap (sum_over size) (cut_roots n index less) in
    let whole = bytes_of_roots m.node index in
    let full = ap (sum_over size) (cover-full index) in
    omega (arith, left, path, bytes_left, split, cut, whole, full)

-- ---- what stays where the full roots of the index keep their values

-- the full roots of a held block's index are in the closure
pub behind_closure : (n : ℕ) (set : ℕ → Bool) (index : ℕ) → set index ≡ true → index < n → (d o : ℕ) → IsFullRoot index d o → in_closure n set d o ≡ true
behind_closure n set index is_held less d o root = elim (cases_lt n (end_block_of (suc d) (o / 2))) [
  | inl past ↦ root_in_closure n set d o (record { within = omega (arith, root.within, less); largest = past })
  | inr within ↦
      let up = inside_up d o in
      let any = held-any_under set (suc d) (o / 2) index is_held (omega (arith, up, span_some d o, root.within), root.largest) in
      halves_in_closure n set d (o / 2) o refl any within
]

-- the bytes before a block that is held after, where the values before it are those before
pub bytes_on : (fork n : ℕ) (signature : List ℕ) (block : Blocks) (value old : Values) (index : ℕ) → holds block index ≡ true → index < n
    → ((d o : ℕ) → IsFullRoot index d o → value d o ≡ old d o)
    → bytes_under (roots_at (content_on fork n signature block value).node index) ≡ bytes_under (roots_at old index)
bytes_on fork n signature block value old index is_held less same =
    ap bytes_under (roots_same index (content_on fork n signature block value).node old (λ d o root.
    closed_in n block value d o (behind_closure n (holds block) index is_held less d o root) ∙ same d o root))

-- so is its offset
pub offset_on : (m : Content) (fork n : ℕ) (signature : List ℕ) (block : Blocks) (value : Values) (index : ℕ) → holds block index ≡ true → index < n
    → index < m.length → ((d o : ℕ) → IsFullRoot index d o → value d o ≡ m.node d o)
    → offset_of (content_on fork n signature block value) index ≡ offset_of m index
offset_on m fork n signature block value index is_held less before same =
    offset_is_sum (content_on fork n signature block value) index less
    ∙ bytes_on fork n signature block value m.node index is_held less same
    ∙ sym (offset_is_sum m index before)

-- ---- held blocks stand apart

-- the cover of one block is its leaf
sum_of_one : (f : ℕ → ℕ → ℕ) (at : ℕ) → sum_over f (cover_of at (suc at)) ≡ f 0 at
sum_of_one f at =
    let largest : IsLargest 0 at (suc at) = record { begins = omega arith; ends = omega arith; next = λ even. omega arith } in
    let place : at / 2 ^ 0 ≡ at = omega arith in
    let rest : cover_of (at + 2 ^ 0) (suc at) ≡ [] = cover-none (at + 2 ^ 0) (suc at) (omega arith) in
    let one = ap (sum_over f) (cover-some 0 at (suc at) largest) in
    let parts = sum_by-cons (λ (t : Subtree). f t.depth t.offset) (subtree 0 (at / 2 ^ 0)) (cover_of (at + 2 ^ 0) (suc at)) in
    let none = ap (sum_over f) rest in
    let here = ap (f 0) place in
    omega (arith, one, parts, none, here)

module _ (m : Content) (sound : IsSound m) (index : ℕ) (bytes : List ℕ) (there : m.block index ≡ Some bytes) where
  -- what is over a held block has the bytes of its halves
  over_adds : (from mid to : ℕ) → mid ≤ suc index → index ≤ mid → to ≤ m.length → AddsUp (size_of m.node) from mid to
  over_adds from mid to high low within d o begins before past ends =
      let any = held-any_under (held m) (suc d) o index (ap is_some there) (omega (arith, before, high), omega (arith, past, low)) in
      size_halves m.length m.block m.node (complete_of m sound) d o (omega (arith, ends, within)) any

  -- right behind a held block the bytes before it and its own stand
  pub bytes_behind : bytes_under (roots_at m.node (suc index)) ≡ bytes_under (roots_at m.node index) + length bytes
  bytes_behind =
      let less = sound.blocks.below index bytes there in
      let split = sum_cover-split (size_of m.node) 0 index (suc index) (omega arith) (omega arith)
      (over_adds 0 index (suc index) (omega arith) (omega arith) (omega (arith, less))) in
      let one = sum_of_one (size_of m.node) index in
      let own = size_stored m.node 0 index (leaf_of bytes) (sound.leaves index bytes there) in
      omega (arith, split, one, own, bytes_of_roots m.node index, bytes_of_roots m.node (suc index))

  -- and no fewer before any later place
  pub bytes_before_later : (to : ℕ) → index < to → to ≤ m.length
      → bytes_under (roots_at m.node index) + length bytes ≤ bytes_under (roots_at m.node to)
  bytes_before_later to before within =
      let split = sum_cover-split (size_of m.node) 0 (suc index) to (omega arith) (omega (arith, before))
      (over_adds 0 (suc index) to (omega arith) (omega arith) within) in
      omega (arith, split, bytes_behind, bytes_of_roots m.node (suc index), bytes_of_roots m.node to)

  -- it ends within the log's bytes
  pub ends_within : offset_of m index + length bytes ≤ bytes_under (roots m)
  ends_within =
      let less = sound.blocks.below index bytes there in
      omega (arith, offset_is_sum m index less, bytes_before_later m.length less (omega arith))

  -- and no later than a later block begins
  pub ends_before : (later : ℕ) → index < later → later < m.length → offset_of m index + length bytes ≤ offset_of m later
  ends_before later before less =
      let own = sound.blocks.below index bytes there in
      omega (arith, offset_is_sum m index own, offset_is_sum m later less, bytes_before_later later before (omega (arith, less)))
