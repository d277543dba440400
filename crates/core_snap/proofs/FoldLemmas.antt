-- The way up from a block's leaf, one sibling after the other.
use Rattle.std.proofs.Common.{◌≡◌, ◌≢◌, ℕ, suc, true, false, ◌+◌, ◌*◌, ◌/◌, ◌%◌, ◌^◌, ◌≤◌, ◌==◌, if◌then◌else◌, inl, inr, List, [], ◌∷◌, ◌++◌, length, Some, refl, sym, ap, ◌∙◌, arith, length-append}
use Rattle.std.specs.List.{AllByRecursion}
use Rattle.std.proofs.lemmas.Bool.{cases_eq, eq-eqb}
use Rattle.std.proofs.lemmas.Nat.{shr-shr}
use Rattle.std.proofs.lemmas.List.FromFn.{map-range_with_len_more}
use Rattle.flat_tree.specs.Subtrees.{number}
use Rattle.flat_tree.specs.declared.limits.TheConstants.{MAX_CORE_BYTES}
use Rattle.merkle_nodes.specs.declared.node.Node.{Node}
use Rattle.merkle_nodes.specs.declared.node.Twig.{Twig}
use Rattle.merkle_nodes.specs.Tree.{parent_of}
use Rattle.merkle_nodes.specs.Roots.{twig_of}
use Rattle.merkle_nodes.specs.Fold.{join, fold_from}
use Rattle.merkle_nodes.specs.Bundle.{TwigFits}
use Rattle.node_set.specs.Contents.{Values, twig_at}
use Rattle.node_set.specs.Paths.{trail_at, sibling_of}
use Rattle.node_set.specs.Whole.{PairsAgree}
use Rattle.core_snap.specs.Ways.{IsHonestTop}

-- ---- siblings

-- a left half and its sibling are in order
pub siblings_in_order : (x y offset : ℕ) → (depth : ℕ) × (x ≡ number depth offset) × (y ≡ number depth (sibling_of offset)) → offset % 2 ≢ 1
    → (depth : ℕ) × (half : ℕ) × (x ≡ number depth (2 * half)) × (y ≡ number depth (2 * half + 1))
siblings_in_order x y offset (depth, own, other) left =
    let is : offset ≡ 2 * (offset / 2) = omega (arith, left) in
    let beside : sibling_of offset ≡ 2 * (offset / 2) + 1 = omega (arith, left) in
    (depth, offset / 2, own ∙ ap (number depth) is, other ∙ ap (number depth) beside)

-- two stored siblings make their parent
pub pair_joined : (node : Values) → PairsAgree node → (depth offset : ℕ) (own other : Twig) → node depth offset ≡ Some own
    → node depth (sibling_of offset) ≡ Some other → node (depth + 1) (offset / 2) ≡ Some (join offset own other)
pair_joined node agree depth offset own other at_own at_other = elim (cases_eq (offset % 2) 1) [
  | inl right ↦
      let is : offset ≡ 2 * (offset / 2) + 1 = omega (arith, right) in
      let beside : sibling_of offset ≡ 2 * (offset / 2) = omega (arith, right) in
      rw (eq-eqb _ _ right) (agree depth (offset / 2) other own (ap (node depth) (sym beside) ∙ at_other) (ap (node depth) (sym is) ∙ at_own))
  | inr left ↦
      let is : offset ≡ 2 * (offset / 2) = omega (arith, left) in
      let beside : sibling_of offset ≡ 2 * (offset / 2) + 1 = omega (arith, left) in
      let even : offset % 2 ≡ 0 = omega (arith, left) in
      rw even (agree depth (offset / 2) own other (ap (node depth) (sym is) ∙ at_own) (ap (node depth) (sym beside) ∙ at_other))
]

-- ---- the fold

-- one sibling more
pub fold_from-push : (offset : ℕ) (node : Twig) (trail : List Twig) (sibling : Twig)
    → fold_from offset node (trail ++ sibling ∷ []) ≡ join (offset / 2 ^ length trail) (fold_from offset node trail) sibling
unfolding fold_from
fold_from-push offset node [] sibling =
    let whole : offset / 2 ^ 0 ≡ offset = omega arith in
    ap (λ (o : ℕ). join o node sibling) (sym whole)
fold_from-push offset node (first ∷ trail) sibling =
    let more : 1 + length trail ≡ suc (length trail) = omega arith in
    let up : offset / 2 / 2 ^ length trail ≡ offset / 2 ^ suc (length trail) = shr-shr offset 1 (length trail) ∙ ap (λ (k : ℕ). offset / 2 ^ k) more in
    fold_from-push (offset / 2) (join offset node first) trail sibling
    ∙ ap (λ (o : ℕ). join o (fold_from (offset / 2) (join offset node first) trail) sibling) up

-- its bytes
join-size : (offset : ℕ) (node sibling : Twig) → (join offset node sibling).size ≡ node.size + sibling.size
join-size offset node sibling = elim (offset % 2 == 1) as (λ b. (if b then parent_of sibling node else parent_of node sibling).size ≡ node.size + sibling.size) [
  | true ↦ omega arith
  | false ↦ refl
]

all_push : (trail : List Twig) (twig : Twig) → AllByRecursion TwigFits trail → TwigFits twig → AllByRecursion TwigFits (trail ++ twig ∷ [])
all_push [] twig fits last = (last, tt)
all_push (first ∷ trail) twig fits last = (fits.0, all_push trail twig fits.1 last)

-- so many siblings of a leaf were joined
pub record HasFolded (leaf top : Node) (index level : ℕ) (trail : List Twig) : Type 0 where
  pub number : top.index ≡ number level (index / 2 ^ level)
  pub size : top.size ≤ (level + 1) * MAX_CORE_BYTES
  pub path : length trail ≡ level
  pub folds : twig_of top ≡ fold_from index (twig_of leaf) trail
  pub twigs : AllByRecursion TwigFits trail

-- none yet
pub HasFolded-start : (leaf : Node) (index : ℕ) → leaf.index ≡ number 0 index → leaf.size ≤ MAX_CORE_BYTES → HasFolded leaf leaf index 0 []
unfolding fold_from
HasFolded-start leaf index is size =
    let whole : index / 2 ^ 0 ≡ index = omega arith in
    record { number = is ∙ ap (number 0) (sym whole); size = omega (arith, size); path = refl; folds = refl; twigs = tt }

pub IsHonestTop-start : (node : Values) (index : ℕ) (leaf : Node) → node 0 index ≡ Some (twig_of leaf) → IsHonestTop node index 0 [] leaf
IsHonestTop-start node index leaf there =
    let whole : index / 2 ^ 0 ≡ index = omega arith in
    record { trail_is = refl; top_is = ap (node 0) whole ∙ there }

-- the siblings of one level more
pub trail_at-more : (node : Values) (index level : ℕ) (trail : List Twig) (sibling : Twig) → twig_at node level (sibling_of (index / 2 ^ level)) ≡ sibling
    → trail ≡ trail_at node 0 index level → trail ++ sibling ∷ [] ≡ trail_at node 0 index (level + 1)
trail_at-more node index level trail sibling beside so_far =
    let step = λ (l : ℕ). twig_at node (0 + l) (sibling_of (index / 2 ^ l)) in
    let depth : 0 + level ≡ level = omega arith in
    let last : step level ≡ sibling = ap (λ (d : ℕ). twig_at node d (sibling_of (index / 2 ^ level))) depth ∙ beside in
    ap (λ (t : List Twig). t ++ sibling ∷ []) so_far
    ∙ ap (λ (t : Twig). trail_at node 0 index level ++ t ∷ []) (sym last)
    ∙ sym (map-range_with_len_more step 0 level level depth)

module _ (index level : ℕ) (top next sibling : Node) (trail : List Twig)
    (twig_is : twig_of next ≡ join (index / 2 ^ level) (twig_of top) (twig_of sibling)) where
  -- one more
  pub HasFolded-more : (leaf : Node) → next.index ≡ number (level + 1) (index / 2 ^ level / 2) → TwigFits (twig_of sibling)
      → HasFolded leaf top index level trail → HasFolded leaf next index (level + 1) (trail ++ twig_of sibling ∷ [])
  HasFolded-more leaf is fits so_far =
      let size : next.size ≡ top.size + sibling.size = ap (λ (t : Twig). t.size) twig_is ∙ join-size (index / 2 ^ level) (twig_of top) (twig_of sibling) in
      let folded = ap (λ (t : Twig). join (index / 2 ^ level) t (twig_of sibling)) so_far.folds in
      let place = ap (λ (k : ℕ). join (index / 2 ^ k) (fold_from index (twig_of leaf) trail) (twig_of sibling)) (sym so_far.path) in
      record {
        number = is ∙ ap (number (level + 1)) (shr-shr index level 1);
        size = omega (arith, size, so_far.size, fits.size);
        path = length-append trail (twig_of sibling ∷ []) ∙ omega (arith, so_far.path);
        folds = twig_is ∙ folded ∙ place ∙ sym (fold_from-push index (twig_of leaf) trail (twig_of sibling));
        twigs = all_push trail (twig_of sibling) so_far.twigs fits;
      }

  -- the same of the stored nodes
  pub IsHonestTop-more : (node : Values) → PairsAgree node → node level (sibling_of (index / 2 ^ level)) ≡ Some (twig_of sibling)
      → IsHonestTop node index level trail top → IsHonestTop node index (level + 1) (trail ++ twig_of sibling ∷ []) next
  IsHonestTop-more node agree beside so_far =
      let parent = pair_joined node agree level (index / 2 ^ level) (twig_of top) (twig_of sibling) so_far.top_is beside in
      record {
        trail_is = trail_at-more node index level trail (twig_of sibling) (rw beside refl) so_far.trail_is;
        top_is = ap (node (level + 1)) (sym (shr-shr index level 1)) ∙ parent ∙ ap Some (sym twig_is);
      }
