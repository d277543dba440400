-- Where another log under a greater fork takes a log's place, the blocks under the roots that stay keep their places.
use Rattle.std.proofs.Common.{◌≡◌, ℕ, true, ◌<◌, ◌≤◌, inl, inr, List, [], ◌∷◌, Option, None, Some, refl, sym, ap, ◌∙◌, arith, nat_eq}
use Rattle.std.specs.Prelude.{is_some, ◌&&◌}
use Rattle.std.specs.Str.{bytes_eq}
use Rattle.std.proofs.lemmas.Bool.{cases_lt, cases_Bool, lt-ltb, le-ltb, and_parts, eqb-true}
use Rattle.std.proofs.lemmas.Slice.Eq.{bytes_eq-Decides}
use Rattle.flat_tree.specs.Subtrees.{Subtree, end_block_of, Tile}
use Rattle.flat_tree.specs.Roots.{full_roots_of}
use Rattle.flat_tree.proofs.RootLemmas.{tile-le, tile-full}
use Rattle.merkle_nodes.specs.declared.node.Twig.{Twig}
use Rattle.merkle_nodes.specs.Joined.{or_value, value_in}
use Rattle.node_set.specs.Contents.{Content, Values}
use Rattle.node_set.specs.Same.{is_stored_as}
use Rattle.node_set.specs.Whole.{IsSound}
use Rattle.node_set.specs.Changes.{blocks_below}
use Rattle.node_set.proofs.ClosureLemmas.{span_some}
use Rattle.node_set.proofs.RootTruth.{twig_same}
use Rattle.core_forks.specs.Reorganise.{kept_under, kept_of, reorganise_content}
use Rattle.core_disk.proofs.BlockPlaces.{offset_on}
use Rattle.core_disk.proofs.BlocksStay.{StaysHeld}

-- what is stored as a twig is that twig
stored_is : (found : Option Twig) (twig : Twig) → is_stored_as found twig ≡ true → found ≡ Some twig
stored_is None twig test = cc
stored_is (Some stored) twig test =
    let parts = and_parts (nat_eq stored.size twig.size) (bytes_eq stored.hash twig.hash) test in
    ap (λ (t : Twig). Some t)
    (twig_same stored twig (eqb-true stored.size twig.size parts.0) ((bytes_eq-Decides stored.hash twig.hash).0 parts.1))

-- a subtree of a tiling that has a value ends past its begin
value_behind : (trees : List Subtree) (twigs : List Twig) (from to d o : ℕ) (twig : Twig) → Tile trees from to → value_in trees twigs d o ≡ Some twig
    → from < end_block_of d o
unfolding value_in
value_behind [] twigs from to d o twig tile is = cc
value_behind (tree ∷ trees) [] from to d o twig tile is = cc
value_behind (tree ∷ trees) (own ∷ twigs) from to d o twig tile is = elim (cases_Bool (nat_eq tree.depth d && nat_eq tree.offset o)) [
  | inl test ↦
      let parts = and_parts (nat_eq tree.depth d) (nat_eq tree.offset o) test in
      let end : end_block_of tree.depth tree.offset ≡ end_block_of d o =
      ap (λ (k : ℕ). end_block_of k tree.offset) (eqb-true tree.depth d parts.0) ∙ ap (λ (k : ℕ). end_block_of d k) (eqb-true tree.offset o parts.1) in
      omega (arith, end, tile.0, span_some tree.depth tree.offset)
  | inr test ↦
      let same : value_in (tree ∷ trees) (own ∷ twigs) d o ≡ value_in trees twigs d o = rw test refl in
      let rest = value_behind trees twigs (end_block_of tree.depth tree.offset) to d o twig tile.1 (sym same ∙ is) in
      omega (arith, rest, tile.0, span_some tree.depth tree.offset)
]

-- the blocks that stay are no more than the log's
kept_most : (node : Values) (trees : List Subtree) (twigs : List Twig) (from to : ℕ) → Tile trees from to → kept_under node trees twigs from ≤ to
unfolding kept_under
kept_most node [] twigs from to tile = omega (arith, tile)
kept_most node (tree ∷ trees) [] from to tile = tile-le (tree ∷ trees) from to tile
kept_most node (tree ∷ trees) (twig ∷ twigs) from to tile = elim (cases_Bool (is_stored_as (node tree.depth tree.offset) twig)) [
  | inl stays ↦ rw stays (kept_most node trees twigs (end_block_of tree.depth tree.offset) to tile.1)
  | inr changed ↦ rw changed (tile-le (tree ∷ trees) from to tile)
]

-- a root over blocks that stay is stored as it comes in
kept_same : (node : Values) (trees : List Subtree) (twigs : List Twig) (from to d o : ℕ) (twig : Twig) → Tile trees from to
    → end_block_of d o ≤ kept_under node trees twigs from → value_in trees twigs d o ≡ Some twig → node d o ≡ Some twig
unfolding kept_under value_in
kept_same node [] twigs from to d o twig tile within is = cc
kept_same node (tree ∷ trees) [] from to d o twig tile within is = cc
kept_same node (tree ∷ trees) (own ∷ twigs) from to d o twig tile within is =
    elim (cases_Bool (is_stored_as (node tree.depth tree.offset) own)) [
      | inr changed ↦
          let none : kept_under node (tree ∷ trees) (own ∷ twigs) from ≡ from = rw changed refl in
          absurd (omega (arith, none, within, value_behind (tree ∷ trees) (own ∷ twigs) from to d o twig tile is))
      | inl stays ↦
          let further : kept_under node (tree ∷ trees) (own ∷ twigs) from ≡ kept_under node trees twigs (end_block_of tree.depth tree.offset) =
          rw stays refl in
          elim (cases_Bool (nat_eq tree.depth d && nat_eq tree.offset o)) [
            | inl test ↦
                let parts = and_parts (nat_eq tree.depth d) (nat_eq tree.offset o) test in
                let here : value_in (tree ∷ trees) (own ∷ twigs) d o ≡ Some own = rw test refl in
                let place : node tree.depth tree.offset ≡ node d o =
                ap (λ (k : ℕ). node k tree.offset) (eqb-true tree.depth d parts.0) ∙ ap (λ (k : ℕ). node d k) (eqb-true tree.offset o parts.1) in
                sym place ∙ stored_is (node tree.depth tree.offset) own stays ∙ sym here ∙ is
            | inr test ↦
                let same : value_in (tree ∷ trees) (own ∷ twigs) d o ≡ value_in trees twigs d o = rw test refl in
                kept_same node trees twigs (end_block_of tree.depth tree.offset) to d o twig tile.1 (omega (arith, within, further)) (sym same ∙ is)
          ]
    ]

-- the blocks below the length that stays are held where they were
pub reorganise_stays : (m : Content) (fork to : ℕ) (roots : List Twig) (signature : List ℕ) → IsSound m
    → StaysHeld m (reorganise_content fork to roots signature m)
reorganise_stays m fork to roots signature sound index bytes there = elim (cases_lt index (kept_of m to roots)) [
  | inr past ↦
      let none : blocks_below (kept_of m to roots) m.block index ≡ None = rw (le-ltb index (kept_of m to roots) past) refl in
      let clash : None ≡ Some bytes = sym none ∙ there in
      cc
  | inl less ↦
      let same : blocks_below (kept_of m to roots) m.block index ≡ m.block index = rw (lt-ltb index (kept_of m to roots) less) refl in
      let old : m.block index ≡ Some bytes = sym same ∙ there in
      let most = kept_most m.node (full_roots_of to) roots 0 to (tile-full to) in (
        old,
        offset_on m fork to signature (blocks_below (kept_of m to roots) m.block) value index (ap is_some there) (omega (arith, less, most))
            (sound.blocks.below index bytes old) (λ d o root. value_same d o (omega (arith, root.within, less)) (value_in (full_roots_of to) roots d o) refl),
      )
]
  where
    value : Values
    value depth offset = or_value (value_in (full_roots_of to) roots depth offset) (m.node depth offset)

    value_same : (d o : ℕ) → end_block_of d o ≤ kept_of m to roots → (found : Option Twig) → value_in (full_roots_of to) roots d o ≡ found
        → or_value (value_in (full_roots_of to) roots d o) (m.node d o) ≡ m.node d o
    value_same d o within None is = rw is refl
    value_same d o within (Some twig) is = rw is (sym (kept_same m.node (full_roots_of to) roots 0 to d o twig (tile-full to) within is))
