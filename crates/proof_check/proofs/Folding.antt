-- A block's path level by level: what it folds to, and the nodes that it puts in.
use Rattle.std.proofs.Common.{◌≡◌, ℕ, zero, suc, Bool, true, false, ◌+◌, ◌*◌, ◌/◌, ◌%◌, ◌^◌, ◌<◌, ◌≤◌, inl, inr, List, [], ◌∷◌, ◌++◌, length, take, get_or, Option, Some, None, nat_eq, nat_lt, refl, sym, ap, subst, ◌∙◌, arith, add-one, if◌then◌else◌, ◌==◌, pow_mono}
use Rattle.std.specs.Prelude.{◌&&◌}
use Rattle.std.specs.List.{AllByRecursion}
use Rattle.std.proofs.lemmas.Bool.{cases_eq, cases_lt, lt-ltb, le-ltb, eq-eqb, ne_eqb}
use Rattle.std.proofs.lemmas.List.{take_more, length-take-le}
use Rattle.flat_tree.specs.Subtrees.{number}
use Rattle.flat_tree.specs.declared.limits.TheConstants.{MAX_CORE_BYTES, MAX_BLOCKS, MAX_SIBLINGS}
use Rattle.flat_tree.proofs.NumberLemmas.{same_depth, same_place, inside_of, number_below, end_first}
use Rattle.merkle_nodes.specs.declared.node.Node.{Node}
use Rattle.merkle_nodes.specs.declared.node.Twig.{Twig}
use Rattle.merkle_nodes.specs.Fold.{join, fold_from, offset_above}
use Rattle.merkle_nodes.specs.Bundle.{TwigFits}
use Rattle.merkle_nodes.specs.Tree.{parent_of}
use Rattle.merkle_nodes.specs.Roots.{twig_of, node_of}
use Rattle.merkle_nodes.specs.Joined.{Values, or_value}
use Rattle.merkle_nodes.proofs.Descent.{offset_above-length}
use Rattle.node_set.proofs.Stored.{over-suc}
use Rattle.node_set.specs.Contents.{no_twig}
use Rattle.node_set.specs.Nodes.{with_node, with_nodes}
use Rattle.node_set.specs.Paths.{folded_at, path_values, sibling_of}
use Rattle.proof_check.specs.Admission.{Ascends}

-- ---- the fold

fold-push : (trail : List Twig) (offset : ℕ) (node sibling : Twig)
    → fold_from offset node (trail ++ sibling ∷ []) ≡ join (offset_above offset trail) (fold_from offset node trail) sibling
unfolding fold_from offset_above
fold-push [] offset node sibling = refl
fold-push (next ∷ trail) offset node sibling = fold-push trail (offset / 2) (join offset node next) sibling

-- one level more
pub folded-suc : (offset level : ℕ) (node blank : Twig) (trail : List Twig) → level < length trail
    → folded_at offset node trail (level + 1) ≡ join (offset / 2 ^ level) (folded_at offset node trail level) (get_or trail level blank)
folded-suc offset level node blank trail more =
    let above : offset_above offset (take level trail) ≡ offset / 2 ^ level =
    offset_above-length offset (take level trail) ∙ ap (λ (k : ℕ). offset / 2 ^ k) (length-take-le level trail (omega (arith, more))) in
    ap (fold_from offset node) (take_more trail level blank more)
    ∙ fold-push (take level trail) offset node (get_or trail level blank)
    ∙ ap (λ (o : ℕ). join o (folded_at offset node trail level) (get_or trail level blank)) above

join_size : (offset : ℕ) (node sibling : Twig) → (join offset node sibling).size ≡ node.size + sibling.size
join_size offset node sibling = elim (offset % 2 == 1) as (λ b. (if b then parent_of sibling node else parent_of node sibling).size ≡ node.size + sibling.size) [
  | true ↦ omega arith
  | false ↦ refl
]

-- ---- nodes at their numbers

pub same_subtree : (d o e p : ℕ) → number d o ≡ number e p → (d ≡ e) × (o ≡ p)
same_subtree d o e p same =
    let row = same_depth d o e p same in
    (row, same_place e o p (sym (ap (λ (k : ℕ). number k o) row) ∙ same))

pub with_node-here : (value : Values) (node : Node) (d o : ℕ) → node.index ≡ number d o → with_node value node d o ≡ Some (twig_of node)
with_node-here value node d o is = rw (eq-eqb node.index (number d o) is) refl

pub with_node-other : (value : Values) (node : Node) (d o : ℕ) → (node.index ≡ number d o → ⊥) → with_node value node d o ≡ value d o
with_node-other value node d o other = rw (ne_eqb node.index (number d o) other) refl

-- ---- the values of a path

sibling_other : (offset : ℕ) → sibling_of offset ≡ offset → ⊥
sibling_other offset same = omega (arith, same)

module _ (index : ℕ) (leaf : Twig) (trail : List Twig) where
  pub path-past : (below d o : ℕ) → below ≤ d → path_values index leaf trail below d o ≡ None
  path-past below d o past = rw (le-ltb d below past) refl

  path-here : (below d : ℕ) → d < below → path_values index leaf trail below d (index / 2 ^ d) ≡ Some (folded_at index leaf trail d)
  path-here below d low = rw (lt-ltb d below low, eq-eqb (index / 2 ^ d) (index / 2 ^ d) refl) refl

  path-beside : (below d o : ℕ) → d < below → o ≡ sibling_of (index / 2 ^ d) → path_values index leaf trail below d o ≡ Some (get_or trail d no_twig)
  path-beside below d o low is =
      rw (lt-ltb d below low, ne_eqb o (index / 2 ^ d) (λ same. sibling_other (index / 2 ^ d) (sym is ∙ same)), eq-eqb o (sibling_of (index / 2 ^ d)) is) refl

  pub path-apart : (below d o : ℕ) → (o ≡ index / 2 ^ d → ⊥) → (o ≡ sibling_of (index / 2 ^ d) → ⊥) → path_values index leaf trail below d o ≡ None
  path-apart below d o apart beside = rw (ne_eqb o (index / 2 ^ d) apart, ne_eqb o (sibling_of (index / 2 ^ d)) beside) (either (nat_lt d below))
    where
      either : (low : Bool) → (if low && false then Some (folded_at index leaf trail d) else if low && false then Some (get_or trail d no_twig) else None) ≡ None
      either true = refl
      either false = refl

  path-other : (level d o : ℕ) → (d ≡ level → ⊥) → path_values index leaf trail (level + 1) d o ≡ path_values index leaf trail level d o
  path-other level d o other = elim (cases_lt d level) [
    | inl low ↦ rw (lt-ltb d (level + 1) (omega (arith, low)), lt-ltb d level low) refl
    | inr high ↦ rw (le-ltb d (level + 1) (omega (arith, high, other)), le-ltb d level high) refl
  ]

  -- one level more, put in
  pub path-suc : (level d o : ℕ) (value : Values) (base : Option Twig) (node sibling : Node)
      → node ≡ node_of level (index / 2 ^ level) (folded_at index leaf trail level)
      → sibling ≡ node_of level (sibling_of (index / 2 ^ level)) (get_or trail level no_twig)
      → value d o ≡ or_value (path_values index leaf trail level d o) base
      → with_node (with_node value node) sibling d o ≡ or_value (path_values index leaf trail (level + 1) d o) base
  path-suc level d o value base node sibling node_is sibling_is before = elim (cases_eq d level) [
    | inl row ↦ subst (λ (k : ℕ). value k o ≡ or_value (path_values index leaf trail level k o) base
        → with_node (with_node value node) sibling k o ≡ or_value (path_values index leaf trail (level + 1) k o) base) (sym row) here before
    | inr other ↦
        with_node-other (with_node value node) sibling d o (λ same. other (sym (same_subtree _ _ d o (sym (ap (λ (n : Node). n.index) sibling_is) ∙ same)).0))
        ∙ with_node-other value node d o (λ same. other (sym (same_subtree _ _ d o (sym (ap (λ (n : Node). n.index) node_is) ∙ same)).0))
        ∙ before
        ∙ ap (λ own. or_value own base) (sym (path-other level d o other))
  ]
    where
      node_at : node.index ≡ number level (index / 2 ^ level)
      node_at = ap (λ (n : Node). n.index) node_is

      sibling_at : sibling.index ≡ number level (sibling_of (index / 2 ^ level))
      sibling_at = ap (λ (n : Node). n.index) sibling_is

      here : value level o ≡ or_value (path_values index leaf trail level level o) base
          → with_node (with_node value node) sibling level o ≡ or_value (path_values index leaf trail (level + 1) level o) base
      here before = elim (cases_eq o (sibling_of (index / 2 ^ level))) [
        | inl beside ↦
            with_node-here (with_node value node) sibling level o (sibling_at ∙ ap (number level) (sym beside))
            ∙ ap (λ (n : Node). Some (twig_of n)) sibling_is
            ∙ ap (λ own. or_value own base) (sym (path-beside (level + 1) level o (omega arith) beside))
        | inr apart ↦
            with_node-other (with_node value node) sibling level o (λ same. apart (sym (same_subtree level _ level o (sym sibling_at ∙ same)).1))
            ∙ elim (cases_eq o (index / 2 ^ level)) [
              | inl own ↦
                  with_node-here value node level o (node_at ∙ ap (number level) (sym own))
                  ∙ ap (λ (n : Node). Some (twig_of n)) node_is
                  ∙ ap (λ found. or_value found base) (sym (ap (path_values index leaf trail (level + 1) level) own ∙ path-here (level + 1) level (omega arith)))
              | inr other ↦
                  with_node-other value node level o (λ same. other (sym (same_subtree level _ level o (sym node_at ∙ same)).1))
                  ∙ before
                  ∙ ap (λ own. or_value own base) (path-past level level o (omega arith) ∙ sym (path-apart (level + 1) level o other apart))
            ]
      ]

-- ---- the loop

-- so many levels were folded, and the nodes below put in
pub record IsFolded (index : ℕ) (leaf : Twig) (trail : List Twig) (level : ℕ) (node : Node) (old new : List Node) : Type 0 where
  pub node_is : node ≡ node_of level (index / 2 ^ level) (folded_at index leaf trail level)
  pub size : node.size ≤ (level + 1) * MAX_CORE_BYTES
  pub puts : (value : Values) (d o : ℕ) → with_nodes value new d o ≡ or_value (path_values index leaf trail level d o) (with_nodes value old d o)
  pub order : Ascends new
  pub few : length new ≤ length old + 2 * level

pub folded_start : (index : ℕ) (leaf : Twig) (trail : List Twig) (node : Node) (old : List Node) → node ≡ node_of 0 index leaf → leaf.size ≤ MAX_CORE_BYTES
    → Ascends old → IsFolded index leaf trail 0 node old old
unfolding fold_from
folded_start index leaf trail node old is small order = record {
  node_is = is ∙ ap (λ (o : ℕ). node_of 0 o leaf) (omega arith);
  size = omega (arith, ap (λ (n : Node). n.size) is, small);
  puts = λ value d o. ap (λ own. or_value own (with_nodes value old d o)) (sym (path-past index leaf trail 0 d o (omega arith)));
  order = order;
  few = omega arith;
}

-- one level more: the node and its sibling are put in, and joined
pub folded_step : (index : ℕ) (leaf : Twig) (trail : List Twig) (level : ℕ) (node sibling above : Node) (old mid more new : List Node)
    → level < length trail → sibling ≡ node_of level (sibling_of (index / 2 ^ level)) (get_or trail level no_twig) → sibling.size ≤ MAX_CORE_BYTES
    → above.index ≡ number (level + 1) (index / 2 ^ level / 2) → twig_of above ≡ join (index / 2 ^ level) (twig_of node) (twig_of sibling)
    → ((value : Values) (d o : ℕ) → with_nodes value more d o ≡ with_node (with_nodes value mid) node d o)
    → ((value : Values) (d o : ℕ) → with_nodes value new d o ≡ with_node (with_nodes value more) sibling d o)
    → Ascends new → length more ≤ length mid + 1 → length new ≤ length more + 1
    → IsFolded index leaf trail level node old mid → IsFolded index leaf trail (level + 1) above old new
folded_step index leaf trail level node sibling above old mid more new within beside small at joins one two order few_one few_two folded = record {
  node_is = twig_there ∙ ap (λ (k : ℕ). node_of (level + 1) k (folded_at index leaf trail (level + 1))) up;
  size = omega (arith, sizes, folded.size, small);
  puts = λ value d o.
      two value d o
      ∙ again value d o
      ∙ path-suc index leaf trail level d o (with_nodes value mid) (with_nodes value old d o) node sibling folded.node_is beside (folded.puts value d o);
  order = order;
  few = omega (arith, few_one, few_two, folded.few);
}
  where
    up : index / 2 ^ level / 2 ≡ index / 2 ^ (level + 1)
    up = over-suc index level ∙ ap (λ (k : ℕ). index / 2 ^ k) (sym (add-one level))

    sizes : above.size ≡ node.size + sibling.size
    sizes = ap (λ (t : Twig). t.size) joins ∙ join_size (index / 2 ^ level) (twig_of node) (twig_of sibling)

    again : (value : Values) (d o : ℕ) → with_node (with_nodes value more) sibling d o ≡ with_node (with_node (with_nodes value mid) node) sibling d o
    again value d o = ap (λ own. if nat_eq sibling.index (number d o) then Some (twig_of sibling) else own) (one value d o)

    folds : twig_of above ≡ folded_at index leaf trail (level + 1)
    folds =
        joins
        ∙ ap (λ (t : Twig). join (index / 2 ^ level) t (twig_of sibling)) (ap twig_of folded.node_is)
        ∙ ap (λ (t : Twig). join (index / 2 ^ level) (folded_at index leaf trail level) t) (ap twig_of beside)
        ∙ sym (folded-suc index level leaf no_twig trail within)

    twig_there : above ≡ node_of (level + 1) (index / 2 ^ level / 2) (folded_at index leaf trail (level + 1))
    twig_there = ap (λ (n : ℕ). record { index = n; size = above.size; hash = above.hash }) at ∙ ap (node_of (level + 1) (index / 2 ^ level / 2)) folds

-- ---- numbers of a path

-- nodes of a path up to the highest root are few
pub path_number : (index level : ℕ) → index < MAX_BLOCKS → level ≤ MAX_SIBLINGS → number level (index / 2 ^ level) < 4 * MAX_BLOCKS
path_number index level few low =
    let inside = inside_of level index in
    omega (arith, inside, number_below level (index / 2 ^ level), end_first level (index / 2 ^ level), few, pow_mono low)

-- a left half and its sibling, and a right half
pub left_pair : (depth offset node beside : ℕ) → (offset % 2 ≡ 1 → ⊥) → node ≡ number depth offset → beside ≡ number depth (sibling_of offset)
    → (node ≡ number depth (2 * (offset / 2))) × (beside ≡ number depth (2 * (offset / 2) + 1))
left_pair depth offset node beside even here near =
    (here ∙ ap (number depth) (omega (arith, even)), near ∙ ap (number depth) (omega (arith, even)))

pub right_pair : (depth offset node beside : ℕ) → offset % 2 ≡ 1 → node ≡ number depth offset → beside ≡ number depth (sibling_of offset)
    → (beside ≡ number depth (2 * (offset / 2))) × (node ≡ number depth (2 * (offset / 2) + 1))
right_pair depth offset node beside odd here near =
    (near ∙ ap (number depth) (omega (arith, odd)), here ∙ ap (number depth) (omega (arith, odd)))

-- what stands at a place within doesn't hang on what stands past the end
pub same_get : (twigs : List Twig) (place : ℕ) (one other : Twig) → place < length twigs → get_or twigs place one ≡ get_or twigs place other
same_get [] place one other within = absurd (omega (arith, within))
same_get (twig ∷ twigs) zero one other within = refl
same_get (twig ∷ twigs) (suc place) one other within = same_get twigs place one other (omega (arith, within))

-- each twig fits
pub twig_fits : (twigs : List Twig) (place : ℕ) (blank : Twig) → AllByRecursion TwigFits twigs → place < length twigs → TwigFits (get_or twigs place blank)
twig_fits [] place blank fits within = absurd (omega (arith, within))
twig_fits (twig ∷ twigs) zero blank fits within = fits.0
twig_fits (twig ∷ twigs) (suc place) blank fits within = twig_fits twigs place blank fits.1 (omega (arith, within))

-- a twig with a number
pub beside_is : (twigs : List Twig) (place index depth offset : ℕ) (blank : Twig) (node : Node) → place < length twigs → AllByRecursion TwigFits twigs
    → index ≡ number depth offset → node ≡ record { index = index; size = (get_or twigs place blank).size; hash = (get_or twigs place blank).hash }
    → (node ≡ node_of depth offset (get_or twigs place no_twig)) × (node.size ≤ MAX_CORE_BYTES)
beside_is twigs place index depth offset blank node within fits at is =
    let twig = same_get twigs place blank no_twig within in (
      is
          ∙ ap (λ (k : ℕ). record { index = k; size = (get_or twigs place blank).size; hash = (get_or twigs place blank).hash }) at
          ∙ ap (λ (t : Twig). node_of depth offset t) twig,
      omega (arith, ap (λ (n : Node). n.size) is, (twig_fits twigs place blank fits within).size),
    )
