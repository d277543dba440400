-- The most bytes that a bundle has.
use Rattle.std.proofs.Common.{◌≡◌, ℕ, ◌+◌, ◌-◌, ◌*◌, ◌/◌, ◌^◌, ◌<◌, ◌≤◌, inl, inr, List, [], ◌∷◌, ◌++◌, length, map, refl, sym, ap, subst, ◌∙◌, arith, length-append}
use Rattle.std.specs.List.{flat_map, AllByRecursion}
use Rattle.std.proofs.Math.Pow.{pow_mono}
use Rattle.std.proofs.lemmas.Bool.{cases_lt, cases_eq}
use Rattle.std.proofs.lemmas.List.{length-map}
use Rattle.std.proofs.lemmas.List.Concat.{flat_map-cons}
use Rattle.flat_tree.specs.Subtrees.{Subtree, subtree, number, numbers_of, first_block_of, end_block_of}
use Rattle.flat_tree.specs.Roots.{full_roots_of, place_over, depth_over}
use Rattle.flat_tree.specs.declared.limits.TheConstants.{MAX_SIBLINGS}
use Rattle.flat_tree.proofs.NumberLemmas.{end_first}
use Rattle.flat_tree.proofs.RootLemmas.{tile-full, tile-get, only-full, length-full}
use Rattle.flat_tree.proofs.OverLemmas.{root-over, depth_over-le}
use Rattle.merkle_nodes.specs.declared.node.Node.{Node}
use Rattle.merkle_nodes.specs.declared.node.Twig.{Twig}
use Rattle.merkle_nodes.specs.declared.reading.Start.{Start}
use Rattle.merkle_nodes.specs.declared.reading.TheConstants.{MAX_TWIGS, MAX_BUNDLE_BYTES}
use Rattle.merkle_nodes.specs.Tree.{u64_bytes}
use Rattle.merkle_nodes.specs.Bundle.{Bundle, magic, twig_spelling, node_spelling, start_spelling, block_spelling, spelling, TwigFits, NodeFits, StartFits, Fits, Spells}

-- ---- how many roots and twigs there are

-- as many blocks as a perfect subtree has are under one root
one_root : (k : ℕ) → length (full_roots_of (2 ^ k)) ≡ 1
unfolding first_block_of end_block_of
one_root k =
    let whole = only-full (2 ^ k) (subtree k 0 ∷ []) (omega arith, omega arith) tt in
    ap length (sym whole)

few_twigs : (k blocks block : ℕ) → 2 ≤ k → block < blocks → blocks ≤ 2 ^ k → length (full_roots_of blocks) + depth_over blocks block ≤ 2 * k - 1
few_twigs k blocks block some less within = elim (cases_eq blocks (2 ^ k)) [
  | inl most ↦
      let one : length (full_roots_of blocks) ≡ 1 = ap (λ (n : ℕ). length (full_roots_of n)) most ∙ one_root k in
      omega (arith, one, depth_over-le blocks block k less within, some)
  | inr fewer ↦
      let depth = depth_over blocks block in
      let ends = (tile-get (full_roots_of blocks) 0 blocks (tile-full blocks) (place_over blocks block) (subtree depth (block / 2 ^ depth)) (root-over blocks block less)).1 in
      let shallow : depth < k = elim (cases_lt depth k) [
        | inl lower ↦ lower
        | inr deeper ↦ absurd (omega (arith, ends, end_first depth (block / 2 ^ depth), pow_mono deeper, within, fewer))
      ] in
      omega (arith, shallow, some, length-full k blocks (omega (arith, some)) within)
]

-- ---- the bytes of the parts

length-nodes : (nodes : List Node) → AllByRecursion NodeFits nodes → length (flat_map node_spelling nodes) ≡ 40 * length nodes
length-nodes [] fits = refl
length-nodes (node ∷ nodes) fits =
    ap length (flat_map-cons node_spelling node nodes)
    ∙ omega (arith, length-append (node_spelling node) (flat_map node_spelling nodes), length-append (u64_bytes node.size) node.hash, fits.0.hash, length-nodes nodes fits.1)

length-twigs : (twigs : List Twig) → AllByRecursion TwigFits twigs → length (flat_map twig_spelling twigs) ≡ 40 * length twigs
length-twigs [] fits = refl
length-twigs (twig ∷ twigs) fits =
    ap length (flat_map-cons twig_spelling twig twigs)
    ∙ omega (arith, length-append (twig_spelling twig) (flat_map twig_spelling twigs), length-append (u64_bytes twig.size) twig.hash, fits.0.hash, length-twigs twigs fits.1)

length-start : (s : Start) → StartFits s → length (start_spelling s) ≡ 96
length-start s fits = length-append (magic ++ u64_bytes s.fork ++ u64_bytes s.length ++ u64_bytes s.index) s.signature ∙ ap (λ (n : ℕ). 32 + n) fits.signature

length-shape : (nodes : List Node) (trees : List Subtree) → map (λ (node : Node). node.index) nodes ≡ numbers_of trees → length nodes ≡ length trees
length-shape nodes trees shape =
    sym (length-map nodes (λ (node : Node). node.index)) ∙ ap length shape ∙ length-map trees (λ (tree : Subtree). number tree.depth tree.offset)

-- ---- all of them

length-spelling : (b : Bundle) → Fits b → length (spelling b) ≤ MAX_BUNDLE_BYTES
unfolding spelling
length-spelling b fits =
    let start = start_spelling b.start in
    let roots = flat_map node_spelling b.roots in
    let trail = flat_map twig_spelling b.trail in
    let few : length (full_roots_of b.start.length) + depth_over b.start.length b.start.index ≤ MAX_TWIGS =
    few_twigs MAX_SIBLINGS b.start.length b.start.index (omega arith) fits.start.index fits.start.few in
    let many : length b.roots + length b.trail ≤ MAX_TWIGS = omega (arith, few, length-shape b.roots (full_roots_of b.start.length) fits.shape, fits.path) in
    omega (
      arith,
      many,
      fits.block,
      length-append (start ++ roots ++ trail) (block_spelling b.block),
      length-append (start ++ roots) trail,
      length-append start roots,
      length-append (u64_bytes (length b.block)) b.block,
      length-start b.start fits.start,
      length-nodes b.roots fits.roots,
      length-twigs b.trail fits.trail,
    )

pub bundle_bound : (b : Bundle) (bytes : List ℕ) → Spells b bytes → length bytes ≤ MAX_BUNDLE_BYTES
bundle_bound b bytes spells = subst (λ (l : List ℕ). length l ≤ MAX_BUNDLE_BYTES) (sym spells.1) (length-spelling b spells.0)
