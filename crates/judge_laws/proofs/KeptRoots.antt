-- Values beside subtrees that tile a range, and the front of them that is stored: each block in it is under a stored subtree.
use Rattle.std.proofs.Common.{◌≡◌, ℕ, zero, suc, true, false, ◌<◌, ◌≤◌, inl, inr, List, [], ◌∷◌, length, map, Option, Some, None, refl, sym, ap, subst, ◌∙◌, arith, nat_eq}
use Rattle.std.specs.Prelude.{is_some, ◌&&◌}
use Rattle.std.specs.List.{AllByRecursion, Contains}
use Rattle.std.proofs.lemmas.Bool.{cases_Bool, eq-eqb, eqb-true, and_parts}
use Rattle.flat_tree.specs.Subtrees.{Subtree, first_block_of, end_block_of, Tile}
use Rattle.flat_tree.specs.Covers.{cover_of}
use Rattle.flat_tree.proofs.CoverLemmas.{tile-cover, cover-full}
use Rattle.merkle_nodes.specs.declared.node.Twig.{Twig}
use Rattle.merkle_nodes.specs.Joined.{Values, joined, value_in}
use Rattle.proof_form.specs.declared.proof.UpgradePart.{UpgradePart}
use Rattle.node_set.specs.Contents.{twig_at}
use Rattle.node_set.specs.Closure.{IsUnder}
use Rattle.node_set.specs.Same.{is_stored_as}
use Rattle.node_set.proofs.ClosureLemmas.{span_some}
use Rattle.node_set.proofs.JoinedLemmas.{joined-known}
use Rattle.node_set.proofs.RootTruth.{twig_at-some}
use Rattle.core_forks.specs.Reorganise.{kept_under}
use Rattle.proof_check.specs.Upgraded.{new_roots}
use Rattle.proof_check.proofs.Refusing.{same_twig}

-- ---- values beside a tiling

same_first : (tree other : Subtree) → (nat_eq tree.depth other.depth && nat_eq tree.offset other.offset) ≡ true
    → first_block_of tree.depth tree.offset ≡ first_block_of other.depth other.offset
same_first tree other test =
    let parts = and_parts (nat_eq tree.depth other.depth) (nat_eq tree.offset other.offset) test in
    ap (λ (d : ℕ). first_block_of d tree.offset) (eqb-true tree.depth other.depth parts.0)
    ∙ ap (first_block_of other.depth) (eqb-true tree.offset other.offset parts.1)

-- the first subtree has its own value, and those behind it have theirs
pub value_in-first : (tree : Subtree) (trees : List Subtree) (twig : Twig) (twigs : List Twig)
    → value_in (tree ∷ trees) (twig ∷ twigs) tree.depth tree.offset ≡ Some twig
unfolding value_in
value_in-first tree trees twig twigs = rw (eq-eqb tree.depth tree.depth refl, eq-eqb tree.offset tree.offset refl) refl

pub value_in-later : (tree : Subtree) (trees : List Subtree) (twig : Twig) (twigs : List Twig) (other : Subtree)
    → end_block_of tree.depth tree.offset ≤ first_block_of other.depth other.offset
    → value_in (tree ∷ trees) (twig ∷ twigs) other.depth other.offset ≡ value_in trees twigs other.depth other.offset
unfolding value_in
value_in-later tree trees twig twigs other behind = elim (cases_Bool (nat_eq tree.depth other.depth && nat_eq tree.offset other.offset)) [
  | inl test ↦ absurd (omega (arith, same_first tree other test, behind, span_some tree.depth tree.offset))
  | inr test ↦ rw test refl
]

-- what tiles a range begins no earlier
tile-first : (trees : List Subtree) (from to : ℕ) (tree : Subtree) → Tile trees from to → Contains trees tree → from ≤ first_block_of tree.depth tree.offset
tile-first [] from to tree tile (at, less, is) = absurd (omega (arith, less))
tile-first (first ∷ trees) from to tree tile (zero, less, is) =
    let same : first_block_of first.depth first.offset ≡ first_block_of tree.depth tree.offset = ap (λ (t : Subtree). first_block_of t.depth t.offset) is in
    omega (arith, tile.0, same)
tile-first (first ∷ trees) from to tree tile (suc at, less, is) =
    omega (arith, tile.0, span_some first.depth first.offset, tile-first trees _ to tree tile.1 (at, omega (arith, less), is))

-- twigs are the values of the subtrees that they stand beside
values_beside : (value : Values) (trees : List Subtree) (twigs : List Twig) (from to : ℕ) → length twigs ≡ length trees → Tile trees from to
    → ((tree : Subtree) (twig : Twig) → from ≤ first_block_of tree.depth tree.offset → value_in trees twigs tree.depth tree.offset ≡ Some twig
    → value tree.depth tree.offset ≡ Some twig)
    → map (λ (tree : Subtree). twig_at value tree.depth tree.offset) trees ≡ twigs
values_beside value [] [] from to count tile has = refl
values_beside value [] (twig ∷ twigs) from to count tile has = absurd (omega (arith, count))
values_beside value (tree ∷ trees) [] from to count tile has = absurd (omega (arith, count))
values_beside value (tree ∷ trees) (twig ∷ twigs) from to count tile has =
    let own = has tree twig (omega (arith, tile.0)) (value_in-first tree trees twig twigs) in
    let rest = values_beside value trees twigs _ to (omega (arith, count)) tile.1 (λ other its behind is.
    has other its (omega (arith, behind, tile.0, span_some tree.depth tree.offset)) (value_in-later tree trees twig twigs other behind ∙ is)) in
    ap (λ (t : Twig). t ∷ map (λ (s : Subtree). twig_at value s.depth s.offset) trees) (twig_at-some value tree.depth tree.offset twig own)
    ∙ ap (λ (ts : List Twig). twig ∷ ts) rest

-- the roots of a whole log are the twigs of its cover
pub new_roots-are : (u : UpgradePart) → length u.nodes ≡ length (cover_of 0 u.length) → new_roots u ≡ u.nodes
new_roots-are u count =
    let known = value_in (cover_of 0 u.length) u.nodes in
    ap (map (λ (tree : Subtree). twig_at (joined known) tree.depth tree.offset)) (sym (cover-full u.length))
    ∙ values_beside (joined known) (cover_of 0 u.length) u.nodes 0 u.length count (tile-cover 0 u.length (omega arith))
    (λ tree twig behind is. joined-known known tree.depth tree.offset twig is)

-- ---- the front that is stored

stored_same : (found : Option Twig) (twig : Twig) → is_stored_as found twig ≡ true → found ≡ Some twig
stored_same None twig same = cc
stored_same (Some stored) twig same = ap Some (same_twig stored twig same)

module _ (node : Values) where
  goes_on : (tree : Subtree) (trees : List Subtree) (twig : Twig) (twigs : List Twig) (from : ℕ) → is_stored_as (node tree.depth tree.offset) twig ≡ true
      → kept_under node (tree ∷ trees) (twig ∷ twigs) from ≡ kept_under node trees twigs (end_block_of tree.depth tree.offset)
  unfolding kept_under
  goes_on tree trees twig twigs from same = rw same refl

  stops : (tree : Subtree) (trees : List Subtree) (twig : Twig) (twigs : List Twig) (from : ℕ) → is_stored_as (node tree.depth tree.offset) twig ≡ false
      → kept_under node (tree ∷ trees) (twig ∷ twigs) from ≡ from
  unfolding kept_under
  stops tree trees twig twigs from other = rw other refl

  stops_early : (trees : List Subtree) (from : ℕ) → kept_under node trees [] from ≡ from
  unfolding kept_under
  stops_early [] from = refl
  stops_early (tree ∷ trees) from = refl

  stops_late : (twigs : List Twig) (from : ℕ) → kept_under node [] twigs from ≡ from
  unfolding kept_under
  stops_late [] from = refl
  stops_late (twig ∷ twigs) from = refl

  -- the subtree is stored with the value beside it
  pub record IsKept (trees : List Subtree) (twigs : List Twig) (tree : Subtree) : Type 0 where
    pub twig : Twig
    pub stored : node tree.depth tree.offset ≡ Some twig
    pub beside : value_in trees twigs tree.depth tree.offset ≡ Some twig

  -- each subtree over a block that is kept is stored so
  pub kept_over : (trees : List Subtree) (twigs : List Twig) (from to : ℕ) (tree : Subtree) (index : ℕ) → Tile trees from to → Contains trees tree
      → IsUnder index tree.depth tree.offset → index < kept_under node trees twigs from → IsKept trees twigs tree
  kept_over [] twigs from to tree index tile (at, less, is) under kept = absurd (omega (arith, less))
  kept_over (first ∷ trees) [] from to tree index tile there under kept =
      absurd (omega (arith, stops_early (first ∷ trees) from, kept, under.0, tile-first (first ∷ trees) from to tree tile there))
  kept_over (first ∷ trees) (twig ∷ twigs) from to tree index tile (zero, less, is) under kept =
      let there : Contains (first ∷ trees) tree = (zero, less, is) in
      elim (cases_Bool (is_stored_as (node first.depth first.offset) twig)) [
        | inr other ↦ absurd (omega (arith, stops first trees twig twigs from other, kept, under.0, tile-first (first ∷ trees) from to tree tile there))
        | inl same ↦
            let own : IsKept (first ∷ trees) (twig ∷ twigs) first = record {
              twig = twig;
              stored = stored_same (node first.depth first.offset) twig same;
              beside = value_in-first first trees twig twigs;
            } in
            subst (IsKept (first ∷ trees) (twig ∷ twigs)) is own
      ]
  kept_over (first ∷ trees) (twig ∷ twigs) from to tree index tile (suc at, less, is) under kept =
      let there : Contains (first ∷ trees) tree = (suc at, less, is) in
      let further : Contains trees tree = (at, omega (arith, less), is) in
      elim (cases_Bool (is_stored_as (node first.depth first.offset) twig)) [
        | inr other ↦ absurd (omega (arith, stops first trees twig twigs from other, kept, under.0, tile-first (first ∷ trees) from to tree tile there))
        | inl same ↦
            let rest = kept_over trees twigs _ to tree index tile.1 further under (omega (arith, kept, goes_on first trees twig twigs from same)) in
            record {
              twig = rest.twig;
              stored = rest.stored;
              beside = value_in-later first trees twig twigs tree (tile-first trees _ to tree tile.1 further) ∙ rest.beside;
            }
      ]

  -- what is kept ends no further than each stored subtree does
  pub kept-bound : (trees : List Subtree) (twigs : List Twig) (from bound : ℕ) → from ≤ bound
      → AllByRecursion (λ (tree : Subtree). is_some (node tree.depth tree.offset) ≡ true → end_block_of tree.depth tree.offset ≤ bound) trees
      → kept_under node trees twigs from ≤ bound
  kept-bound [] twigs from bound low each = omega (arith, low, stops_late twigs from)
  kept-bound (tree ∷ trees) [] from bound low each = omega (arith, low, stops_early (tree ∷ trees) from)
  kept-bound (tree ∷ trees) (twig ∷ twigs) from bound low each = elim (cases_Bool (is_stored_as (node tree.depth tree.offset) twig)) [
    | inr other ↦ omega (arith, low, stops tree trees twig twigs from other)
    | inl same ↦
        let end = each.0 (ap is_some (stored_same (node tree.depth tree.offset) twig same)) in
        omega (arith, goes_on tree trees twig twigs from same, kept-bound trees twigs _ bound end each.1)
  ]
