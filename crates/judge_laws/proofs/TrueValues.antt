-- Values that are a log's: what is put together of them is, and so is what folds along a path of them.
use Rattle.std.proofs.Common.{◌≡◌, ◌≢◌, ℕ, zero, suc, ◌+◌, ◌*◌, ◌/◌, ◌%◌, ◌^◌, ◌≤◌, inl, inr, List, [], ◌∷◌, length, map, Option, Some, None, refl, sym, ap, ◌∙◌, arith, nat_eq, slice_index_or}
use Rattle.std.specs.Prelude.{◌&&◌}
use Rattle.std.proofs.lemmas.Bool.{cases_lt, cases_Bool, le-leb, lt-leb, eq-eqb, ne_eqb, and_parts, eqb-true}
use Rattle.std.proofs.lemmas.List.Sums.{sum_by-cons}
use Rattle.flat_tree.specs.Subtrees.{Subtree, end_block_of, Tile}
use Rattle.flat_tree.specs.Roots.{full_roots_of}
use Rattle.flat_tree.proofs.RootLemmas.{tile-full, tile-le}
use Rattle.merkle_nodes.specs.declared.node.Node.{Node}
use Rattle.merkle_nodes.specs.declared.node.Twig.{Twig}
use Rattle.merkle_nodes.specs.Tree.{parent_of, tree_of}
use Rattle.merkle_nodes.specs.Fold.{join, fold_from}
use Rattle.merkle_nodes.specs.Joined.{Values, or_value, parent_if, joined, value_in, with_parts}
use Rattle.merkle_nodes.specs.Roots.{roots_of}
use Rattle.node_set.specs.Contents.{Content, roots, roots_at, bytes_under, no_twig}
use Rattle.node_set.specs.Closure.{IsFullRoot}
use Rattle.node_set.specs.Paths.{sibling_of, folded_at}
use Rattle.node_set.specs.Whole.{IsSound}
use Rattle.node_set.proofs.KeepsWhole.{own_roots}
use Rattle.node_set.proofs.RootTruth.{root_of}
use Rattle.node_set.proofs.SoundLemmas.{stored_value, roots_same}
use Rattle.node_set.proofs.Stored.{half_cases, over-suc}
use Rattle.node_set.proofs.TreeSizes.{bytes_before, size_of_tree}
use Rattle.proof_check.specs.Parts.{Part}
use Rattle.proof_check.proofs.FetchSound.{fold_step}
use Rattle.judge_laws.specs.Honest.{PartIsOf}

-- ---- one value

-- where there is a value, it is this one
abbrev pub IsOnly : Option Twig → Twig → Type 0
IsOnly found twig = (own : Twig) → found ≡ Some own → own ≡ twig

or_true : (first second : Option Twig) (twig : Twig) → IsOnly first twig → IsOnly second twig → IsOnly (or_value first second) twig
or_true (Some one) second twig is_first is_second own is = is_first own is
or_true None second twig is_first is_second own is = is_second own is

parent_true : (left right : Option Twig) (one other : Twig) → IsOnly left one → IsOnly right other → IsOnly (parent_if left right) (parent_of one other)
parent_true (Some a) (Some b) one other is_left is_right own is =
    let same : parent_of a b ≡ own = cc in
    sym same ∙ ap (λ (t : Twig). parent_of t b) (is_left a refl) ∙ ap (parent_of one) (is_right b refl)
parent_true (Some a) None one other is_left is_right own is = cc
parent_true None right one other is_left is_right own is = cc

module _ (log : List (List ℕ)) where
  -- each value is the log's
  abbrev pub AreTrue : Values → Type 0
  AreTrue value = (d o : ℕ) → IsOnly (value d o) (tree_of log d o)

  abbrev pub tree_at : Subtree → Twig
  tree_at tree = tree_of log tree.depth tree.offset

  pub value_true : (trees : List Subtree) → AreTrue (value_in trees (map tree_at trees))
  unfolding value_in
  value_true [] d o own is = cc
  value_true (tree ∷ trees) d o own is = elim (cases_Bool (nat_eq tree.depth d && nat_eq tree.offset o)) [
    | inl here ↦
        let parts = and_parts (nat_eq tree.depth d) (nat_eq tree.offset o) here in
        let found : value_in (tree ∷ trees) (map tree_at (tree ∷ trees)) d o ≡ Some (tree_at tree) = rw here refl in
        let both : Some (tree_at tree) ≡ Some own = sym found ∙ is in
        let same : tree_at tree ≡ own = cc in
        sym same ∙ ap (λ (k : ℕ). tree_of log k tree.offset) (eqb-true tree.depth d parts.0) ∙ ap (tree_of log d) (eqb-true tree.offset o parts.1)
    | inr other ↦
        let further : value_in (tree ∷ trees) (map tree_at (tree ∷ trees)) d o ≡ value_in trees (map tree_at trees) d o = rw other refl in
        value_true trees d o own (sym further ∙ is)
  ]

  pub joined_true : (known : Values) → AreTrue known → AreTrue (joined known)
  unfolding joined tree_of
  joined_true known is_true zero o = is_true zero o
  joined_true known is_true (suc d) o =
      or_true (known (suc d) o) (parent_if (joined known d (2 * o)) (joined known d (2 * o + 1))) (tree_of log (suc d) o) (is_true (suc d) o)
      (parent_true (joined known d (2 * o)) (joined known d (2 * o + 1)) (tree_of log d (2 * o)) (tree_of log d (2 * o + 1))
      (joined_true known is_true d (2 * o)) (joined_true known is_true d (2 * o + 1)))

  pub parts_true : (n : ℕ) (old : Values) (trees : List Subtree) → AreTrue old → AreTrue (with_parts n old trees (map tree_at trees))
  parts_true n old trees is_true d o own is = elim (cases_lt n (end_block_of d o)) [
    | inr within ↦
        let below : with_parts n old trees (map tree_at trees) d o ≡ old d o = rw (le-leb (end_block_of d o) n within) refl in
        is_true d o own (sym below ∙ is)
    | inl past ↦
        let behind : with_parts n old trees (map tree_at trees) d o ≡ value_in trees (map tree_at trees) d o = rw (lt-leb (end_block_of d o) n past) refl in
        value_true trees d o own (sym behind ∙ is)
  ]

  -- ---- roots

  -- a sound content of as many blocks whose full roots are the log's has the log's roots
  pub roots_true : (m : Content) → IsSound m → m.length ≡ length log
      → ((d o : ℕ) → IsFullRoot m.length d o → IsOnly (m.node d o) (tree_of log d o)) → roots m ≡ roots_of log
  roots_true m sound whole is_true =
      let tree_values : Values = λ d o. Some (tree_of log d o) in
      roots_same m.length m.node tree_values (λ d o root.
      let stored = stored_value (m.node d o) (own_roots m sound d o root) in stored.1 ∙ ap Some (is_true d o root stored.0 stored.1))
      ∙ ap (roots_at tree_values) whole

  tiled_bytes : (trees : List Subtree) (from : ℕ) → Tile trees from (length log)
      → bytes_before log from + bytes_under (map (root_of log) trees) ≡ bytes_before log (length log)
  tiled_bytes [] from tile = let same = ap (bytes_before log) tile in omega (arith, same)
  tiled_bytes (tree ∷ trees) from tile =
      let size = size_of_tree log tree.depth tree.offset (tile-le trees (end_block_of tree.depth tree.offset) (length log) tile.1) in
      let more = sum_by-cons (λ (n : Node). n.size) (root_of log tree) (map (root_of log) trees) in
      omega (arith, size, ap (bytes_before log) tile.0, tiled_bytes trees _ tile.1, more)

  -- the roots have the bytes of the blocks
  pub roots_bytes : bytes_under (roots_of log) ≡ bytes_before log (length log)
  roots_bytes =
      let all = tiled_bytes (full_roots_of (length log)) 0 (tile-full (length log)) in
      let none : bytes_before log 0 ≡ 0 = refl in
      omega (arith, all, none)

  -- ---- a fold

  -- a node of the log joined with its sibling is its parent
  join_true : (d o : ℕ) → join o (tree_of log d o) (tree_of log d (sibling_of o)) ≡ tree_of log (suc d) (o / 2)
  unfolding tree_of
  join_true d o = elim (half_cases o) [
    | inl left ↦
        let even : o % 2 ≢ 1 = λ odd. omega (arith, left, odd) in
        let next : sibling_of o ≡ 2 * (o / 2) + 1 = omega (arith, left) in
        let both : join o (tree_of log d o) (tree_of log d (sibling_of o)) ≡ parent_of (tree_of log d o) (tree_of log d (sibling_of o)) =
        rw (ne_eqb (o % 2) 1 even) refl in
        both ∙ ap (λ (k : ℕ). parent_of (tree_of log d k) (tree_of log d (sibling_of o))) left
        ∙ ap (λ (k : ℕ). parent_of (tree_of log d (2 * (o / 2))) (tree_of log d k)) next
    | inr right ↦
        let odd : o % 2 ≡ 1 = omega (arith, right) in
        let next : sibling_of o ≡ 2 * (o / 2) = omega (arith, right) in
        let both : join o (tree_of log d o) (tree_of log d (sibling_of o)) ≡ parent_of (tree_of log d (sibling_of o)) (tree_of log d o) =
        rw (eq-eqb (o % 2) 1 odd) refl in
        both ∙ ap (λ (k : ℕ). parent_of (tree_of log d k) (tree_of log d o)) next
        ∙ ap (λ (k : ℕ). parent_of (tree_of log d (2 * (o / 2))) (tree_of log d k)) right
  ]

  pub fold_true : (part : Part) → PartIsOf log part → (level : ℕ) → level ≤ length part.trail
      → folded_at part.offset part.twig part.trail level ≡ tree_of log (part.depth + level) (part.offset / 2 ^ level)
  unfolding fold_from
  fold_true part is zero low =
      let same : part.offset ≡ part.offset / 2 ^ 0 = omega arith in
      let depth : part.depth ≡ part.depth + 0 = omega arith in
      is.twig ∙ ap (tree_of log part.depth) same ∙ ap (λ (d : ℕ). tree_of log d (part.offset / 2 ^ 0)) depth
  fold_true part is (suc level) low =
      let d = part.depth + level in
      let o = part.offset / 2 ^ level in
      let deeper : suc d ≡ part.depth + suc level = omega arith in
      fold_step part.offset part.twig part.trail level (omega (arith, low))
      ∙ ap (λ (t : Twig). join o t (slice_index_or part.trail level no_twig)) (fold_true part is level (omega (arith, low)))
      ∙ ap (join o (tree_of log d o)) (is.trail level (omega (arith, low)))
      ∙ join_true d o
      ∙ ap (tree_of log (suc d)) (over-suc part.offset level)
      ∙ ap (λ (k : ℕ). tree_of log k (part.offset / 2 ^ suc level)) deeper
