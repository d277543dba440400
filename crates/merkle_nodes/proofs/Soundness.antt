-- Whoever made an answer, its block is that of each log under its roots, or two different inputs of equal hash are in hand.
use Rattle.std.proofs.Common.{◌≡◌, ℕ, zero, suc, ◌/◌, ◌^◌, ◌<◌, ◌≤◌, inl, inr, List, [], ◌∷◌, ◌++◌, length, get_or, take, drop, option_map, map, slice_get, Some, refl, sym, ap, subst, ◌∙◌, arith, length-append}
use Rattle.std.specs.Prelude.{Bool, Result, Ok, Err, IfOk}
use Rattle.std.specs.List.{flat_map, AllByRecursion}
use Rattle.std.proofs.lemmas.List.{length-take-le}
use Rattle.std.proofs.lemmas.List.Concat.{flat_map-cons}
use Rattle.std.proofs.lemmas.Option.{slice_get-map, slice_get-get_or}
use Rattle.flat_tree.specs.Subtrees.{Subtree, subtree, end_block_of}
use Rattle.flat_tree.specs.Roots.{full_roots_of, place_over, depth_over}
use Rattle.flat_tree.proofs.RootLemmas.{tile-full, tile-get}
use Rattle.flat_tree.proofs.OverLemmas.{root-over}
use Rattle.merkle_nodes.specs.declared.node.Node.{Node}
use Rattle.merkle_nodes.specs.declared.node.Twig.{Twig}
use Rattle.blake2b_hash.proofs.Hashes.{length_hash_of}
use Rattle.merkle_nodes.specs.Tree.{u64_bytes, leaf_input, leaf_of, tree_of}
use Rattle.merkle_nodes.specs.Roots.{node_of, roots_of, root_part, root_input}
use Rattle.merkle_nodes.specs.Fold.{fold, offset_above, Proves}
use Rattle.merkle_nodes.specs.Bundle.{NodeFits, TwigFits}
use Rattle.merkle_nodes.specs.declared.check.Opened.{Opened}
use Rattle.merkle_nodes.specs.declared.check.BundleFault.{BundleFault}
use Rattle.merkle_nodes.specs.Check.{Checks, OpensSigned, block_at}
use Rattle.merkle_nodes.specs.Roots.{Accepts}
use Rattle.merkle_nodes.specs.Sound.{IsBlockUnder, IsBlockOrClash, inputs_of, fold_inputs, path_inputs, HasHash, HasRootHash, IsSound}
use Rattle.merkle_nodes.proofs.Inputs.{Contains-first, Contains-later, leaf_in, roots_in, same_or_clash, clash_later, split_same}
use Rattle.merkle_nodes.proofs.Descent.{tree_has_hash, tree_of-take, depth_above, depth_above-length, offset_above-length, descend}

-- equal inputs of roots have equal first hashes, and equal inputs of the others
first_same : (x y : Node) (xs ys : List Node) → HasRootHash x → HasRootHash y → flat_map root_part (x ∷ xs) ≡ flat_map root_part (y ∷ ys)
    → (x.hash ≡ y.hash) × (flat_map root_part xs ≡ flat_map root_part ys)
first_same x y xs ys wide_x wide_y same =
    let index_width : length (x.hash ++ u64_bytes x.index) ≡ length (y.hash ++ u64_bytes y.index) =
    omega (arith, length-append x.hash (u64_bytes x.index), length-append y.hash (u64_bytes y.index), wide_x, wide_y) in
    let width : length (root_part x) ≡ length (root_part y) =
    omega (arith, length-append (x.hash ++ u64_bytes x.index) (u64_bytes x.size), length-append (y.hash ++ u64_bytes y.index) (u64_bytes y.size), index_width) in
    let parts = split_same (root_part x) (root_part y) (flat_map root_part xs) (flat_map root_part ys) width (sym (flat_map-cons root_part x xs) ∙ same ∙ flat_map-cons root_part y ys) in
    let front = split_same (x.hash ++ u64_bytes x.index) (y.hash ++ u64_bytes y.index) (u64_bytes x.size) (u64_bytes y.size) index_width parts.0 in
    ((split_same x.hash y.hash (u64_bytes x.index) (u64_bytes y.index) (wide_x ∙ sym wide_y) front.0).0, parts.1)

roots_same : (xs ys : List Node) → AllByRecursion HasRootHash xs → AllByRecursion HasRootHash ys → flat_map root_part xs ≡ flat_map root_part ys
    → (place : ℕ) (x y : Node) → slice_get xs place ≡ Some x → slice_get ys place ≡ Some y → x.hash ≡ y.hash
roots_same [] ys wide_xs wide_ys same place x y at_x at_y = cc
roots_same (a ∷ xs) [] wide_xs wide_ys same place x y at_x at_y = cc
roots_same (a ∷ xs) (b ∷ ys) wide_xs wide_ys same zero x y at_x at_y =
    let is_x : a ≡ x = cc in
    let is_y : b ≡ y = cc in
    sym (ap (λ (n : Node). n.hash) is_x) ∙ (first_same a b xs ys wide_xs.0 wide_ys.0 same).0 ∙ ap (λ (n : Node). n.hash) is_y
roots_same (a ∷ xs) (b ∷ ys) wide_xs wide_ys same (suc place) x y at_x at_y =
    roots_same xs ys wide_xs.1 wide_ys.1 (first_same a b xs ys wide_xs.0 wide_ys.0 same).1 place x y at_x at_y

roots_have_hashes : (log : List (List ℕ)) (trees : List Subtree) → AllByRecursion HasRootHash (map (λ (tree : Subtree). node_of tree.depth tree.offset (tree_of log tree.depth tree.offset)) trees)
roots_have_hashes log [] = tt
roots_have_hashes log (tree ∷ trees) = (tree_has_hash log tree.depth tree.offset, roots_have_hashes log trees)

-- the root over a block, in the roots of a log and as its tree
pub log_root : (log : List (List ℕ)) (index depth : ℕ) → index < length log → depth_over (length log) index ≡ depth
    → (slice_get (roots_of log) (place_over (length log) index)
    ≡ Some (node_of depth (index / 2 ^ depth) (tree_of log depth (index / 2 ^ depth))))
    × (end_block_of depth (index / 2 ^ depth) ≤ length log)
log_root log index depth less deep =
    let trees = full_roots_of (length log) in
    let place = place_over (length log) index in
    let over = λ (d : ℕ). subtree d (index / 2 ^ d) in
    let there : slice_get trees place ≡ Some (over depth) =
    subst (λ (d : ℕ). slice_get trees place ≡ Some (over d)) deep (root-over (length log) index less) in
    let node = λ (tree : Subtree). node_of tree.depth tree.offset (tree_of log tree.depth tree.offset) in
    let within = tile-get trees 0 (length log) (tile-full (length log)) place (over depth) there in
    (slice_get-map node trees place ∙ ap (option_map node) there, within.1)

module _ (log : List (List ℕ)) (roots : List Node) (index : ℕ) (block : List ℕ) (trail : List Twig) where
  -- the last step: the leaf
  leaf_step : index < length log → (leaf_of block).hash ≡ (tree_of log 0 index).hash → IsBlockOrClash log roots index block trail
  unfolding tree_of
  leaf_step less same =
      let own = get_or log index [] in
      let ways = fold_inputs index (leaf_of block) trail in
      let here = Contains-later (root_input roots) (leaf_input block) (leaf_input block ∷ ways) (Contains-first (leaf_input block) ways) in
      elim (same_or_clash (inputs_of log) (path_inputs roots index block trail) (leaf_input own) (leaf_input block) (leaf_in log index less) here (sym same)) [
        | inr clash ↦ inr clash
        | inl one ↦
            let parts = split_same (0 ∷ u64_bytes (length own)) (0 ∷ u64_bytes (length block)) own block refl one in
            inl (slice_get-get_or log index [] less ∙ ap Some parts.1)
      ]

  -- from the root over the block down to it
  from_root : AllByRecursion HasHash trail → index < length log → end_block_of (length trail) (index / 2 ^ length trail) ≤ length log
      → (fold index block trail).hash ≡ (tree_of log (length trail) (index / 2 ^ length trail)).hash → IsBlockOrClash log roots index block trail
  from_root wide less inside same =
      let depth : length trail ≡ depth_above 0 trail = sym (depth_above-length 0 trail ∙ omega arith) in
      let offset : index / 2 ^ length trail ≡ offset_above index trail = sym (offset_above-length index trail) in
      let within : end_block_of (depth_above 0 trail) (offset_above index trail) ≤ length log = rw (← depth, ← offset) inside in
      let top : (fold index block trail).hash ≡ (tree_of log (depth_above 0 trail) (offset_above index trail)).hash = rw (← depth, ← offset) same in
      elim (descend log 0 index (leaf_of block) trail (length_hash_of _) wide within top) [
        | inr clash ↦ inr (clash_later _ _ (root_input roots) (clash_later _ _ (leaf_input block) clash))
        | inl leaf ↦ leaf_step less leaf
      ]

  -- from equal inputs of the log's first roots and the answer's
  from_roots : (blocks : ℕ) → AllByRecursion HasRootHash roots → AllByRecursion HasHash trail → Proves blocks roots index block trail
      → blocks ≤ length log → length (take blocks log) ≡ blocks → root_input (roots_of (take blocks log)) ≡ root_input roots
      → IsBlockOrClash log roots index block trail
  from_roots blocks wide_roots wide proved long count same =
      let first = take blocks log in
      let depth = length trail in
      let offset = index / 2 ^ depth in
      let deep : depth_over (length first) index ≡ depth = ap (λ (n : ℕ). depth_over n index) count ∙ sym proved.path in
      let own = log_root first index depth (rw count proved.within) deep in
      let place = ap (λ (n : ℕ). slice_get (roots_of first) (place_over n index)) (sym count) ∙ own.0 in
      let wide_first = roots_have_hashes first (full_roots_of (length first)) in
      let equal = roots_same (roots_of first) roots wide_first wide_roots (ap (drop 1) same) (place_over blocks index) _ proved.root place proved.over in
      let inside : end_block_of depth offset ≤ blocks = omega (arith, own.1, count) in
      let hash = λ (t : Twig). t.hash in
      from_root wide (omega (arith, proved.within, long)) (omega (arith, inside, long))
      (ap hash proved.folds ∙ sym equal ∙ ap hash (tree_of-take log blocks depth offset inside))

-- the theorem
pub sound : (roots : List Node) (blocks index : ℕ) (block : List ℕ) (trail : List Twig) → IsSound roots blocks index block trail
sound roots blocks index block trail wide_roots wide proved log is =
    let first = Contains-first (root_input roots) (leaf_input block ∷ fold_inputs index (leaf_of block) trail) in
    elim (same_or_clash (inputs_of log) (path_inputs roots index block trail) _ (root_input roots) (roots_in log blocks is.long) first is.root_hash) [
      | inr clash ↦ inr clash
      | inl same ↦ from_roots log roots index block trail blocks wide_roots wide proved is.long (length-take-le blocks log is.long) same
    ]

-- ---- a bundle that was opened

roots_fit : (roots : List Node) → AllByRecursion NodeFits roots → AllByRecursion HasRootHash roots
roots_fit [] fits = tt
roots_fit (root ∷ roots) fits = (fits.0.hash, roots_fit roots fits.1)

trail_fits : (trail : List Twig) → AllByRecursion TwigFits trail → AllByRecursion HasHash trail
trail_fits [] fits = tt
trail_fits (twig ∷ trail) fits = (fits.0.hash, trail_fits trail fits.1)

pub opens_signed : (accepts : List ℕ → List ℕ → Bool) (bytes : List ℕ) (result : Result Opened BundleFault) → Checks accepts bytes result
    → IfOk result (λ opened. OpensSigned accepts bytes opened)
opens_signed accepts bytes (Err fault) checks = tt
opens_signed accepts bytes (Ok opened) (b, spells, proved, accepted, opens) =
    let head : Accepts accepts opened.fork opened.length b.roots b.start.signature = rw (opens.fork, opens.blocks) accepted in
    let block : IsBlockUnder b.roots opened.length opened.index (block_at bytes opened) b.trail = rw (opens.blocks, opens.index, opens.block)
    (sound b.roots b.start.length b.start.index b.block b.trail (roots_fit b.roots spells.0.roots) (trail_fits b.trail spells.0.trail) proved) in
    record { bundle = b; spells = spells; accepted = head; sound = block }
