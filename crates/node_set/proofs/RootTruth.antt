-- The roots of a content of a log are those of the log's first blocks, or their inputs clash.
use Rattle.std.proofs.Common.{◌≡◌, ℕ, suc, ◌+◌, ◌*◌, ◌/◌, ◌%◌, ◌^◌, ◌<◌, ◌≤◌, ◌⊎◌, inl, inr, List, [], ◌∷◌, ◌++◌, length, take, drop, map, option_map, slice_get, Some, None, refl, sym, ap, subst, ◌∙◌, arith, add-one, length-append}
use Rattle.std.specs.Prelude.{Option}
use Rattle.std.specs.List.{flat_map}
use Rattle.std.specs.Int.{w64, from_le_bytes}
use Rattle.std.proofs.Math.Nat.{mul-div_cancel}
use Rattle.std.proofs.lemmas.Nat.{pow_pos, shr-shr, le-div, div_below, from_le_bytes-to_le_bytes_8}
use Rattle.std.proofs.lemmas.List.{length-take-le}
use Rattle.std.proofs.lemmas.List.Concat.{flat_map-cons}
use Rattle.std.proofs.lemmas.List.Sums.{sum_by-take-le}
use Rattle.std.proofs.lemmas.Option.{slice_get-map}
use Rattle.flat_tree.specs.Subtrees.{Subtree, subtree, first_block_of, end_block_of, Tile}
use Rattle.flat_tree.specs.Roots.{full_roots_of}
use Rattle.flat_tree.proofs.RootLemmas.{tile-full, tile-le}
use Rattle.flat_tree.proofs.OverLemmas.{IsOver, over-full}
use Rattle.merkle_nodes.specs.declared.node.Node.{Node}
use Rattle.merkle_nodes.specs.declared.node.Twig.{Twig}
use Rattle.merkle_nodes.specs.Tree.{u64_bytes, tree_of}
use Rattle.merkle_nodes.specs.Roots.{node_of, twig_of, roots_of, root_part, root_input}
use Rattle.merkle_nodes.proofs.Inputs.{roots_in, split_same}
use Rattle.merkle_nodes.proofs.Descent.{tree_has_hash, tree_of-take}
use Rattle.node_set.specs.Contents.{Content, Values, no_twig, twig_at, node_at, roots}
use Rattle.node_set.specs.Whole.{IsSound, NodesFit}
use Rattle.node_set.specs.Evidence.{bytes_of, IsOf, OrClash}
use Rattle.node_set.proofs.EvidenceLemmas.{or_clash_then, same_input, root_evident}
use Rattle.node_set.proofs.Stored.{some_same}
use Rattle.node_set.proofs.TreeSizes.{size_of_tree}

-- ---- equal texts

-- numbers of equal bytes are equal
pub number_same : (a b : ℕ) → a < 2 ^ 64 → b < 2 ^ 64 → u64_bytes a ≡ u64_bytes b → a ≡ b
number_same a b small_a small_b same = sym (from_le_bytes-to_le_bytes_8 a small_a) ∙ ap (from_le_bytes w64) same ∙ from_le_bytes-to_le_bytes_8 b small_b

-- twigs of equal size and hash are equal
pub twig_same : (s t : Twig) → s.size ≡ t.size → s.hash ≡ t.hash → s ≡ t
twig_same s t size hash = ap (λ (n : ℕ). record { size = n; hash = s.hash }) size ∙ ap (λ (h : List ℕ). record { size = t.size; hash = h }) hash

-- a size below 2^64 and a hash of 32 bytes
pub record IsNarrow (twig : Twig) : Type 0 where
  pub size : twig.size < 2 ^ 64
  pub hash : length twig.hash ≡ 32

-- equal inputs of roots have equal first twigs, and equal inputs of the others
first_same : (depth offset : ℕ) (s t : Twig) (xs ys : List Node) → IsNarrow s → IsNarrow t
    → flat_map root_part (node_of depth offset s ∷ xs) ≡ flat_map root_part (node_of depth offset t ∷ ys)
    → (s ≡ t) × (flat_map root_part xs ≡ flat_map root_part ys)
first_same depth offset s t xs ys narrow_s narrow_t same =
    let x = node_of depth offset s in
    let y = node_of depth offset t in
    let widths : length (s.hash ++ u64_bytes x.index) ≡ length (t.hash ++ u64_bytes y.index) =
    omega (arith, length-append s.hash (u64_bytes x.index), length-append t.hash (u64_bytes y.index), narrow_s.hash, narrow_t.hash) in
    let width : length (root_part x) ≡ length (root_part y) =
    omega (arith, length-append (s.hash ++ u64_bytes x.index) (u64_bytes s.size), length-append (t.hash ++ u64_bytes y.index) (u64_bytes t.size), widths) in
    let texts = sym (flat_map-cons root_part x xs) ∙ same ∙ flat_map-cons root_part y ys in
    let parts = split_same (root_part x) (root_part y) (flat_map root_part xs) (flat_map root_part ys) width texts in
    let front = split_same (s.hash ++ u64_bytes x.index) (t.hash ++ u64_bytes y.index) (u64_bytes s.size) (u64_bytes t.size) widths parts.0 in
    let hash = (split_same s.hash t.hash (u64_bytes x.index) (u64_bytes y.index) (narrow_s.hash ∙ sym narrow_t.hash) front.0).0 in
    (twig_same s t (number_same s.size t.size narrow_s.size narrow_t.size front.1) hash, parts.1)

-- ---- twigs of a content and of a log

pub twig_at-some : (node : Values) (depth offset : ℕ) (twig : Twig) → node depth offset ≡ Some twig → twig_at node depth offset ≡ twig
twig_at-some node depth offset twig there = rw there refl

twig_at-none : (node : Values) (depth offset : ℕ) → node depth offset ≡ None → twig_at node depth offset ≡ no_twig
twig_at-none node depth offset none = rw none refl

pub some_or_none : {A : Type 0} (found : Option A) → ((x : A) × (found ≡ Some x)) ⊎ (found ≡ None)
some_or_none None = inr refl
some_or_none (Some x) = inl (x, refl)

-- a stored node's twig, and what stands for one that isn't stored
twig_narrow : (node : Values) (depth offset : ℕ) → NodesFit node → IsNarrow (twig_at node depth offset)
twig_narrow node depth offset fit = elim (some_or_none (node depth offset)) [
  | inl (twig, there) ↦
      let fits = fit depth offset twig there in
      subst IsNarrow (sym (twig_at-some node depth offset twig there)) (record { size = omega (arith, fits.size); hash = fits.hash })
  | inr none ↦ subst IsNarrow (sym (twig_at-none node depth offset none)) (record { size = omega arith; hash = refl })
]

-- a tree of fewer than 2^64 bytes
pub tree_narrow : (log : List (List ℕ)) (depth offset : ℕ) → end_block_of depth offset ≤ length log → bytes_of log < 2 ^ 64
    → IsNarrow (tree_of log depth offset)
tree_narrow log depth offset inside small = record {
  size = omega (arith, size_of_tree log depth offset inside, sum_by-take-le length log (end_block_of depth offset), small);
  hash = tree_has_hash log depth offset;
}

-- ---- roots

-- the root of a subtree, in a log and in a content
abbrev pub root_of : List (List ℕ) → Subtree → Node
root_of log tree = node_of tree.depth tree.offset (tree_of log tree.depth tree.offset)

abbrev own_root : Values → Subtree → Node
own_root node tree = node_at node tree.depth tree.offset

-- equal inputs of roots over some subtrees are of equal roots
roots_same : (log : List (List ℕ)) (node : Values) (trees : List Subtree) (from : ℕ) → bytes_of log < 2 ^ 64 → NodesFit node → Tile trees from (length log)
    → flat_map root_part (map (root_of log) trees) ≡ flat_map root_part (map (own_root node) trees) → map (own_root node) trees ≡ map (root_of log) trees
roots_same log node [] from small fit tile same = refl
roots_same log node (tree ∷ trees) from small fit tile same =
    let inside = tile-le trees (end_block_of tree.depth tree.offset) (length log) tile.1 in
    let theirs = tree_of log tree.depth tree.offset in
    let own = twig_at node tree.depth tree.offset in
    let twigs = first_same tree.depth tree.offset theirs own (map (root_of log) trees) (map (own_root node) trees)
    (tree_narrow log tree.depth tree.offset inside small) (twig_narrow node tree.depth tree.offset fit) same in
    let rest = roots_same log node trees (end_block_of tree.depth tree.offset) small fit tile.1 twigs.1 in
    ap (λ (t : Twig). node_of tree.depth tree.offset t ∷ map (own_root node) trees) (sym twigs.0) ∙ ap (λ (ns : List Node). root_of log tree ∷ ns) rest

-- a full root in words is among the full roots
pub root_among : (n depth offset : ℕ) → end_block_of depth offset ≤ n → n < end_block_of (suc depth) (offset / 2)
    → (place : ℕ) × (slice_get (full_roots_of n) place ≡ Some (subtree depth offset))
unfolding first_block_of end_block_of
root_among n depth offset inside past =
    let enough : offset + 1 ≤ n / 2 ^ depth = le-div (offset + 1) n (2 ^ depth) (pow_pos depth) inside in
    let few : n / 2 ^ suc depth < offset / 2 + 1 = div_below n (2 ^ suc depth) (offset / 2 + 1) (pow_pos (suc depth)) past in
    let half : n / 2 ^ suc depth ≡ n / 2 ^ depth / 2 = ap (λ (k : ℕ). n / 2 ^ k) (sym (add-one depth)) ∙ sym (shr-shr n depth 1) in
    let count : n / 2 ^ depth ≡ offset + 1 = omega (arith, enough, few, half) in
    let odd : n / 2 ^ depth % 2 ≡ 1 = omega (arith, enough, few, half) in
    let place : offset * 2 ^ depth / 2 ^ depth ≡ offset = mul-div_cancel offset (pow_pos depth) in
    let over : IsOver n (offset * 2 ^ depth) depth = record { one = odd; next = omega (arith, place, count) } in
    (_, (over-full n (offset * 2 ^ depth) depth over).root ∙ ap (λ (o : ℕ). Some (subtree depth o)) place)

module _ (m : Content) (log : List (List ℕ)) (sound : IsSound m) (is : IsOf m log) where
  -- the roots are the log's
  pub roots_are_of : OrClash (roots m ≡ roots_of (take m.length log)) m log
  roots_are_of =
      let first = take m.length log in
      let count : length first ≡ m.length = length-take-le m.length log is.long in
      let in_log = roots_in log m.length is.long in
      or_clash_then (same_input m log (root_input (roots_of first)) (root_input (roots m)) in_log (root_evident m) is.root_hash) (λ same.
      let trees = full_roots_of (length first) in
      let own : roots m ≡ map (own_root m.node) trees = ap (λ (n : ℕ). map (own_root m.node) (full_roots_of n)) (sym count) in
      let inputs = ap (drop 1) same ∙ ap (flat_map root_part) own in
      inl (own ∙ roots_same first m.node trees 0 is.bytes sound.fit (tile-full (length first)) inputs))

  -- so is each full root
  pub root_is_of : roots m ≡ roots_of (take m.length log) → (depth offset : ℕ) (twig : Twig) → m.node depth offset ≡ Some twig
      → end_block_of depth offset ≤ m.length → m.length < end_block_of (suc depth) (offset / 2) → twig ≡ tree_of log depth offset
  root_is_of same depth offset twig there inside past =
      let first = take m.length log in
      let n = m.length in
      let among = root_among n depth offset inside past in
      let place = among.0 in
      let count : length first ≡ n = length-take-le n log is.long in
      let tree = subtree depth offset in
      let own : slice_get (roots m) place ≡ Some (own_root m.node tree) =
      slice_get-map (own_root m.node) (full_roots_of n) place ∙ ap (option_map (own_root m.node)) among.1 in
      let again : slice_get (full_roots_of (length first)) place ≡ Some tree = ap (λ (k : ℕ). slice_get (full_roots_of k) place) count ∙ among.1 in
      let theirs : slice_get (roots_of first) place ≡ Some (root_of first tree) =
      slice_get-map (root_of first) (full_roots_of (length first)) place ∙ ap (option_map (root_of first)) again in
      let nodes : own_root m.node tree ≡ root_of first tree = some_same _ _ (sym own ∙ ap (λ (ns : List Node). slice_get ns place) same ∙ theirs) in
      sym (twig_at-some m.node depth offset twig there) ∙ ap twig_of nodes ∙ tree_of-take log n depth offset inside
