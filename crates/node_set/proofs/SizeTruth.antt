-- Each stored node of a content of a log is the log's, and each held block, or inputs clash.
use Rattle.std.proofs.Common.{◌≡◌, ℕ, zero, suc, ◌+◌, ◌*◌, ◌/◌, ◌^◌, ◌<◌, ◌≤◌, inl, inr, true, List, [], ◌∷◌, length, get_or, take, slice_get, Some, refl, sym, ap, ◌∙◌, arith}
use Rattle.std.proofs.lemmas.Nat.{pow_pos, mul-le}
use Rattle.std.proofs.lemmas.Option.{slice_get-get_or}
use Rattle.flat_tree.specs.Subtrees.{end_block_of}
use Rattle.flat_tree.proofs.RootLemmas.{below_pow}
use Rattle.merkle_nodes.specs.declared.node.Twig.{Twig}
use Rattle.merkle_nodes.specs.Tree.{u64_bytes, leaf_input, leaf_of, parent_of, tree_of}
use Rattle.merkle_nodes.specs.Roots.{roots_of}
use Rattle.merkle_nodes.proofs.Inputs.{leaf_in, split_same}
use Rattle.node_set.specs.Contents.{Content, roots, held}
use Rattle.node_set.specs.Closure.{any_under}
use Rattle.node_set.specs.Whole.{IsSound}
use Rattle.node_set.specs.Evidence.{IsOf, OrClash, NodesAreOf, BlocksAreOf}
use Rattle.node_set.proofs.EvidenceLemmas.{or_clash_then, same_input, all_or_clash, leaf_evident}
use Rattle.node_set.proofs.Stored.{StoredPair, some_of, some_same, half_has, any_under-halves, parent_stored, stored_within, pair_stored, root_or_below}
use Rattle.node_set.proofs.RootTruth.{twig_same, some_or_none, roots_are_of, root_is_of}
use Rattle.node_set.proofs.HashTruth.{pair_is_of, hash_is_of}

-- a subtree within a length has its depth and offset below it
pub places_low : (n depth offset : ℕ) → end_block_of depth offset ≤ n → (depth < n) × (offset < n)
unfolding end_block_of
places_low n depth offset inside =
    let high = mul-le 1 (2 ^ depth) (offset + 1) (2 ^ depth) (omega arith) (omega arith) in
    let wide = mul-le (offset + 1) 1 (offset + 1) (2 ^ depth) (omega arith) (omega (arith, pow_pos depth)) in
    (omega (arith, high, inside, below_pow depth), omega (arith, wide, inside))

module _ (m : Content) (log : List (List ℕ)) (sound : IsSound m) (is : IsOf m log) where
  -- a held block whose leaf has the log's hash is the log's
  block_is : (index : ℕ) (bytes : List ℕ) → m.block index ≡ Some bytes → (leaf_of bytes).hash ≡ (tree_of log 0 index).hash
      → OrClash (get_or log index [] ≡ bytes) m log
  unfolding tree_of
  block_is index bytes there hash =
      let own = get_or log index [] in
      let less = sound.blocks.below index bytes there in
      let in_log = leaf_in log index (omega (arith, less, is.long)) in
      or_clash_then (same_input m log (leaf_input own) (leaf_input bytes) in_log (leaf_evident m index bytes less there) hash) (λ same.
      inl (split_same (0 ∷ u64_bytes (length own)) (0 ∷ u64_bytes (length bytes)) own bytes refl same).1)

  -- a stored node over a held block has the log's size, where it has the log's hash
  own_size : (depth offset : ℕ) (twig : Twig) → m.node depth offset ≡ Some twig → any_under (held m) depth offset ≡ true
      → twig.hash ≡ (tree_of log depth offset).hash → OrClash (twig.size ≡ (tree_of log depth offset).size) m log
  unfolding tree_of any_under
  own_size zero offset twig there some hash =
      let block = some_of (m.block offset) some in
      let twigs = some_same twig (leaf_of block.0) (sym there ∙ sound.leaves offset block.0 block.1) in
      or_clash_then (block_is offset block.0 block.1 (ap (λ (t : Twig). t.hash) (sym twigs) ∙ hash)) (λ same.
      inl (ap (λ (t : Twig). t.size) twigs ∙ ap length (sym same)))
  own_size (suc depth) offset twig there some hash =
      let pair = pair_stored m sound.closed depth offset (stored_within m sound.closed (suc depth) offset twig there) some in
      let twigs = some_same twig (parent_of pair.left pair.right) (sym there ∙ parent_stored m.node sound.pairs depth offset pair) in
      or_clash_then (pair_is_of m log sound is depth offset pair (ap (λ (t : Twig). t.hash) (sym twigs) ∙ hash)) (λ both.
      inl (ap (λ (t : Twig). t.size) twigs ∙ both.sizes))

  -- two stored halves over a held block are the log's
  pair_is : roots m ≡ roots_of (take m.length log) → (depth offset : ℕ) (pair : StoredPair m.node depth offset) → any_under (held m) (suc depth) offset ≡ true
      → OrClash ((pair.left ≡ tree_of log depth (2 * offset)) × (pair.right ≡ tree_of log depth (2 * offset + 1))) m log
  pair_is same depth offset pair some =
      let first = tree_of log depth (2 * offset) in
      let second = tree_of log depth (2 * offset + 1) in
      let parent = parent_stored m.node sound.pairs depth offset pair in
      or_clash_then (hash_is_of m log sound is same (suc depth) offset (parent_of pair.left pair.right) parent) (λ hash.
      or_clash_then (pair_is_of m log sound is depth offset pair hash) (λ both.
      elim (any_under-halves (held m) depth offset some) [
        | inl under ↦ or_clash_then (own_size depth (2 * offset) pair.left pair.at_left under both.left_hash) (λ size.
            inl (twig_same pair.left first size both.left_hash, twig_same pair.right second (omega (arith, size, both.sizes)) both.right_hash))
        | inr under ↦ or_clash_then (own_size depth (2 * offset + 1) pair.right pair.at_right under both.right_hash) (λ size.
            inl (twig_same pair.left first (omega (arith, size, both.sizes)) both.left_hash, twig_same pair.right second size both.right_hash))
      ]))

  -- a stored node is the log's
  pub twig_is_of : roots m ≡ roots_of (take m.length log) → (depth offset : ℕ) (twig : Twig) → m.node depth offset ≡ Some twig
      → OrClash (twig ≡ tree_of log depth offset) m log
  twig_is_of same depth offset twig there =
      elim (root_or_below m sound.closed depth offset twig there) [
        | inl past ↦ inl (root_is_of m log sound is same depth offset twig there (stored_within m sound.closed depth offset twig there) past)
        | inr (inside, some) ↦
            let pair = pair_stored m sound.closed depth (offset / 2) inside some in
            or_clash_then (pair_is same depth (offset / 2) pair some) (λ both.
            inl (half_has m.node depth offset twig there pair (λ o t. t ≡ tree_of log depth o) both.0 both.1))
      ]

  -- what is stored for a subtree is the log's
  place_is_of : roots m ≡ roots_of (take m.length log) → (depth offset : ℕ)
      → OrClash ((twig : Twig) → m.node depth offset ≡ Some twig → twig ≡ tree_of log depth offset) m log
  place_is_of same depth offset = elim (some_or_none (m.node depth offset)) [
    | inl (found, there) ↦ or_clash_then (twig_is_of same depth offset found there) (λ is_log.
        inl (λ twig also. some_same twig found (sym also ∙ there) ∙ is_log))
    | inr none ↦ inl (λ twig there. cc)
  ]

  -- all nodes are
  pub nodes_are_of : OrClash (NodesAreOf m log) m log
  nodes_are_of =
      let low = λ (depth offset : ℕ) (twig : Twig) (there : m.node depth offset ≡ Some twig).
      places_low m.length depth offset (stored_within m sound.closed depth offset twig there) in
      or_clash_then (roots_are_of m log sound is) (λ same.
      all_or_clash (λ (depth : ℕ). (offset : ℕ) (twig : Twig) → m.node depth offset ≡ Some twig → twig ≡ tree_of log depth offset) m.length
      (λ depth. all_or_clash (λ (offset : ℕ). (twig : Twig) → m.node depth offset ≡ Some twig → twig ≡ tree_of log depth offset) m.length
      (place_is_of same depth) (λ offset past twig there. absurd (omega (arith, past, (low depth offset twig there).1))))
      (λ depth past offset twig there. absurd (omega (arith, past, (low depth offset twig there).0))))

  -- a held block is the log's, where all nodes are
  block_is_of : NodesAreOf m log → (index : ℕ) → OrClash ((bytes : List ℕ) → m.block index ≡ Some bytes → slice_get log index ≡ Some bytes) m log
  block_is_of nodes index = elim (some_or_none (m.block index)) [
    | inl (found, there) ↦
        let less = sound.blocks.below index found there in
        let leaf = nodes 0 index (leaf_of found) (sound.leaves index found there) in
        or_clash_then (block_is index found there (ap (λ (t : Twig). t.hash) leaf)) (λ is_log.
        inl (λ bytes also. slice_get-get_or log index [] (omega (arith, less, is.long)) ∙ ap Some is_log ∙ sym there ∙ also))
    | inr none ↦ inl (λ bytes there. cc)
  ]

  -- all blocks are
  pub blocks_are_of : OrClash (BlocksAreOf m log) m log
  blocks_are_of =
      or_clash_then nodes_are_of (λ nodes.
      all_or_clash (λ (index : ℕ). (bytes : List ℕ) → m.block index ≡ Some bytes → slice_get log index ≡ Some bytes) m.length (block_is_of nodes)
      (λ index past bytes there. absurd (omega (arith, past, sound.blocks.below index bytes there))))
