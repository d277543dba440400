-- Each stored node of a content of a log has the log's hash, from the roots downward, or inputs clash.
use Rattle.std.proofs.Common.{◌≡◌, ℕ, zero, suc, ◌+◌, ◌*◌, ◌/◌, ◌^◌, ◌<◌, ◌≤◌, inl, inr, List, ◌∷◌, ◌++◌, length, take, drop, Some, refl, sym, ap, subst, arith, length-append}
use Rattle.std.proofs.lemmas.List.{length-take-le}
use Rattle.flat_tree.specs.Subtrees.{end_block_of}
use Rattle.flat_tree.proofs.NumberLemmas.{end_first}
use Rattle.flat_tree.proofs.RootLemmas.{below_pow}
use Rattle.merkle_nodes.specs.declared.node.Twig.{Twig}
use Rattle.merkle_nodes.specs.Tree.{u64_bytes, parent_input, parent_of, tree_of}
use Rattle.merkle_nodes.specs.Roots.{roots_of}
use Rattle.merkle_nodes.specs.Sound.{HasHash}
use Rattle.merkle_nodes.proofs.Inputs.{parent_in, split_same}
use Rattle.merkle_nodes.proofs.Descent.{tree_has_hash, tree_of-take}
use Rattle.node_set.specs.Contents.{Content, roots}
use Rattle.node_set.specs.Whole.{IsSound}
use Rattle.node_set.specs.Evidence.{IsOf, OrClash}
use Rattle.node_set.proofs.EvidenceLemmas.{or_clash_then, same_input, parent_evident}
use Rattle.node_set.proofs.Stored.{StoredPair, half_has, parent_stored, stored_within, pair_within, pair_stored, root_or_below}
use Rattle.node_set.proofs.RootTruth.{IsNarrow, number_same, tree_narrow, root_is_of}

-- equal inputs of parents have halves of equal hashes, and sizes of one spelling
halves_same : (l r s t : Twig) → HasHash l → HasHash r → HasHash s → HasHash t → parent_input l r ≡ parent_input s t
    → (l.hash ≡ s.hash) × (r.hash ≡ t.hash) × (u64_bytes (l.size + r.size) ≡ u64_bytes (s.size + t.size))
halves_same l r s t wl wr ws wt same =
    let one = 1 ∷ u64_bytes (l.size + r.size) in
    let other = 1 ∷ u64_bytes (s.size + t.size) in
    let width : length (one ++ l.hash) ≡ length (other ++ s.hash) = omega (arith, length-append one l.hash, length-append other s.hash, wl, ws) in
    let both = split_same (one ++ l.hash) (other ++ s.hash) r.hash t.hash width same in
    let front = split_same one other l.hash s.hash refl both.0 in
    (front.1, both.1, ap (drop 1) front.0)

-- two halves have the log's hashes, and their sizes the log's sum
pub record IsPairOf (log : List (List ℕ)) (depth offset : ℕ) (left right : Twig) : Type 0 where
  pub left_hash : left.hash ≡ (tree_of log depth (2 * offset)).hash
  pub right_hash : right.hash ≡ (tree_of log depth (2 * offset + 1)).hash
  pub sizes : left.size + right.size ≡ (tree_of log depth (2 * offset)).size + (tree_of log depth (2 * offset + 1)).size

module _ (m : Content) (log : List (List ℕ)) (sound : IsSound m) (is : IsOf m log) where
  -- a tree of the log's first blocks has fewer than 2^64 bytes
  pub first_narrow : (depth offset : ℕ) → end_block_of depth offset ≤ m.length → IsNarrow (tree_of log depth offset)
  first_narrow depth offset inside =
      let count = length-take-le m.length log is.long in
      subst IsNarrow (tree_of-take log m.length depth offset inside) (tree_narrow (take m.length log) depth offset (omega (arith, inside, count)) is.bytes)

  -- under a parent with the log's hash, a stored pair has the log's hashes
  pub pair_is_of : (depth offset : ℕ) (pair : StoredPair m.node depth offset)
      → (parent_of pair.left pair.right).hash ≡ (tree_of log (suc depth) offset).hash → OrClash (IsPairOf log depth offset pair.left pair.right) m log
  unfolding tree_of
  pair_is_of depth offset pair hash =
      let left = 2 * offset in
      let right = 2 * offset + 1 in
      let first = tree_of log depth left in
      let second = tree_of log depth right in
      let inside = pair_within m sound.closed depth offset pair in
      let in_log = parent_in log depth offset (omega (arith, inside, is.long)) in
      let in_own = parent_evident m depth offset pair inside in
      or_clash_then (same_input m log (parent_input first second) (parent_input pair.left pair.right) in_log in_own hash) (λ same.
      let fits = sound.fit (suc depth) offset (parent_of pair.left pair.right) (parent_stored m.node sound.pairs depth offset pair) in
      let small : pair.left.size + pair.right.size < 2 ^ 64 = omega (arith, fits.size) in
      let sum = number_same (pair.left.size + pair.right.size) (first.size + second.size) small (first_narrow (suc depth) offset inside).size in
      let halves = halves_same first second pair.left pair.right (tree_has_hash log depth left) (tree_has_hash log depth right)
      (sound.fit depth left pair.left pair.at_left).hash (sound.fit depth right pair.right pair.at_right).hash same in
      inl (record { left_hash = sym halves.0; right_hash = sym halves.1; sizes = sum (sym halves.2) }))

  -- from the roots, so many levels below the length, down to a node
  hash_is_by : (levels : ℕ) → roots m ≡ roots_of (take m.length log) → (depth offset : ℕ) (twig : Twig) → m.length ≤ depth + levels
      → m.node depth offset ≡ Some twig → OrClash (twig.hash ≡ (tree_of log depth offset).hash) m log
  hash_is_by zero same depth offset twig deep there =
      absurd (omega (arith, deep, below_pow depth, end_first depth offset, stored_within m sound.closed depth offset twig there))
  hash_is_by (suc levels) same depth offset twig deep there =
      elim (root_or_below m sound.closed depth offset twig there) [
        | inl past ↦
            let inside = stored_within m sound.closed depth offset twig there in
            inl (ap (λ (t : Twig). t.hash) (root_is_of m log sound is same depth offset twig there inside past))
        | inr (inside, some) ↦
            let pair = pair_stored m sound.closed depth (offset / 2) inside some in
            let parent = parent_stored m.node sound.pairs depth (offset / 2) pair in
            or_clash_then (hash_is_by levels same (suc depth) (offset / 2) (parent_of pair.left pair.right) (omega (arith, deep)) parent) (λ hash.
            or_clash_then (pair_is_of depth (offset / 2) pair hash) (λ both.
            inl (half_has m.node depth offset twig there pair (λ o t. t.hash ≡ (tree_of log depth o).hash) both.left_hash both.right_hash)))
      ]

  -- each stored node has the log's hash
  pub hash_is_of : roots m ≡ roots_of (take m.length log) → (depth offset : ℕ) (twig : Twig) → m.node depth offset ≡ Some twig
      → OrClash (twig.hash ≡ (tree_of log depth offset).hash) m log
  hash_is_of same depth offset twig there = hash_is_by m.length same depth offset twig (omega arith) there
