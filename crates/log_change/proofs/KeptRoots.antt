-- The roots of another log, gone through while they are stored as they are.
use Rattle.std.proofs.Common.{◌≡◌, ℕ, suc, Bool, true, false, ◌+◌, ◌*◌, ◌<◌, ◌≤◌, IsTrue, List, [], ◌∷◌, ◌++◌, length, take, drop, map, get_or, slice_get, option_map, Some, None, refl, sym, ap, subst, ◌∙◌, arith, add-one, drop-cons}
use Rattle.std.specs.Prelude.{Option}
use Rattle.std.proofs.lemmas.List.{drop_all, drop-map, length-map, take_more, take-append-drop}
use Rattle.std.specs.List.{AllByRecursion}
use Rattle.std.proofs.lemmas.Nat.{pow_pos}
use Rattle.std.proofs.lemmas.Option.{slice_get-map, slice_get-get_or}
use Rattle.flat_tree.specs.Subtrees.{Subtree, number, numbers_of, end_block_of, Tile}
use Rattle.flat_tree.specs.Roots.{full_roots_of}
use Rattle.flat_tree.proofs.NumberLemmas.{number_below, end_first}
use Rattle.flat_tree.proofs.RootLemmas.{tile-full}
use Rattle.merkle_nodes.specs.declared.node.Node.{Node}
use Rattle.merkle_nodes.specs.declared.node.Twig.{Twig}
use Rattle.merkle_nodes.specs.Roots.{twig_of}
use Rattle.node_set.specs.Closure.{IsFullRoot}
use Rattle.node_set.specs.Same.{is_stored_as}
use Rattle.node_set.specs.Whole.{IsSound}
use Rattle.node_set.proofs.AppendLemmas.{all_get, all_push, all_so}
use Rattle.node_set.proofs.CoverLemmas.{all-append}
use Rattle.node_set.proofs.SoundLemmas.{all_roots}
use Rattle.node_set.proofs.TableRoots.{root_tree, tree_there}
use Rattle.core_forks.specs.Reorganise.{kept_under, kept_of}
use Rattle.log_view.specs.Views.{Source}
use Rattle.log_change.specs.Calls.{GivesBelow}
use Rattle.log_change.proofs.Named.{number_of, same_subtree}

-- the view gives a node
abbrev pub IsGiven : Source → Node → Type 0
IsGiven s node = s.gives node.index (twig_of node) ≡ true

-- so many roots were gone through, all stored as they are
pub record HasKept (s : Source) (n : ℕ) (roots : List Node) (at kept : ℕ) : Type 0 where
  pub below : kept ≤ n
  pub before : kept ≤ s.content.length
  pub tiles : Tile (drop at (full_roots_of n)) kept n
  pub given : AllByRecursion (IsGiven s) (take at roots)
  pub left : IsTrue s.shows → IsSound s.content
      → kept_under s.content.node (drop at (full_roots_of n)) (map twig_of (drop at roots)) kept ≡ kept_of s.content n (map twig_of roots)

-- none yet
pub kept_start : (s : Source) (n : ℕ) (roots : List Node) → HasKept s n roots 0 0
kept_start s n roots = record { below = omega arith; before = omega arith; tiles = tile-full n; given = tt; left = λ shows sound. refl }

-- whether a source's content stores one of the roots as it is
abbrev pub Stores : List Node → ℕ → Node → Bool → Source → Type 0
Stores roots at blank same s = IsTrue s.shows → IsSound s.content → (d o : ℕ) → number d o ≡ (get_or roots at blank).index
    → same ≡ is_stored_as (s.content.node d o) (twig_of (get_or roots at blank))

module _ (s : Source) (n : ℕ) (roots : List Node) (at : ℕ) (blank : Node) (shape : map number_of roots ≡ numbers_of (full_roots_of n)) (within : at < length roots) where
  abbrev node : Node
  node = get_or roots at blank

  abbrev tree : Subtree
  tree = root_tree n at

  inside : at < length (full_roots_of n)
  inside = omega (arith, within, ap length shape, length-map roots number_of, length-map (full_roots_of n) (λ (t : Subtree). number t.depth t.offset))

  pub numbered : number tree.depth tree.offset ≡ node.index
  numbered = tree_there (full_roots_of n) (map number_of roots) at node.index _ shape inside
      (slice_get-map number_of roots at ∙ ap (option_map number_of) (slice_get-get_or roots at blank within))

  pub ends : end_block_of tree.depth tree.offset ≤ n
  ends = (all_get (λ (t : Subtree). IsFullRoot n t.depth t.offset) (full_roots_of n) at tree (all_roots n) (slice_get-get_or (full_roots_of n) at _ inside)).within

  pub small : node.index < 2 * n
  small = omega (arith, sym numbered, number_below tree.depth tree.offset, ends)

  trees_from : drop at (full_roots_of n) ≡ tree ∷ drop (suc at) (full_roots_of n)
  trees_from = drop-cons (full_roots_of n) at _ inside

  twigs_from : map twig_of (drop at roots) ≡ twig_of node ∷ map twig_of (drop (suc at) roots)
  twigs_from = ap (map twig_of) (drop-cons roots at blank within)

  -- the next is stored too
  pub kept_more : (kept : ℕ) → HasKept s n roots at kept → end_block_of tree.depth tree.offset ≤ s.content.length → IsGiven s node
      → (IsTrue s.shows → IsSound s.content → is_stored_as (s.content.node tree.depth tree.offset) (twig_of node) ≡ true)
      → HasKept s n roots (at + 1) (end_block_of tree.depth tree.offset)
  unfolding kept_under
  kept_more kept so_far before gives stored = record {
    below = ends;
    before = before;
    tiles = subst (λ (k : ℕ). Tile (drop k (full_roots_of n)) (end_block_of tree.depth tree.offset) n) (sym (add-one at))
        (subst (λ (trees : List Subtree). Tile trees kept n) trees_from so_far.tiles).1;
    given = subst (AllByRecursion (IsGiven s)) (sym (take_more roots at blank within)) (all_push (IsGiven s) (take at roots) node so_far.given gives);
    left = λ shows sound.
        let under = λ (trees : List Subtree) (twigs : List Twig). kept_under s.content.node trees twigs kept in
        let step : under (tree ∷ drop (suc at) (full_roots_of n)) (twig_of node ∷ map twig_of (drop (suc at) roots))
        ≡ kept_under s.content.node (drop (suc at) (full_roots_of n)) (map twig_of (drop (suc at) roots)) (end_block_of tree.depth tree.offset) =
        rw (stored shows sound) refl in
        ap (λ (k : ℕ). kept_under s.content.node (drop k (full_roots_of n)) (map twig_of (drop k roots)) (end_block_of tree.depth tree.offset)) (add-one at)
        ∙ sym step
        ∙ sym (ap (λ (trees : List Subtree). under trees (map twig_of (drop at roots))) trees_from ∙ ap (under (tree ∷ drop (suc at) (full_roots_of n))) twigs_from)
        ∙ so_far.left shows sound;
  }

  -- the next isn't
  pub kept_here : (kept : ℕ) → HasKept s n roots at kept → IsTrue s.shows → IsSound s.content
      → is_stored_as (s.content.node tree.depth tree.offset) (twig_of node) ≡ false → kept ≡ kept_of s.content n (map twig_of roots)
  unfolding kept_under
  kept_here kept so_far shows sound other =
      let under = λ (trees : List Subtree) (twigs : List Twig). kept_under s.content.node trees twigs kept in
      let step : under (tree ∷ drop (suc at) (full_roots_of n)) (twig_of node ∷ map twig_of (drop (suc at) roots)) ≡ kept = rw other refl in
      sym step
      ∙ sym (ap (λ (trees : List Subtree). under trees (map twig_of (drop at roots))) trees_from ∙ ap (under (tree ∷ drop (suc at) (full_roots_of n))) twigs_from)
      ∙ so_far.left shows sound

-- all were gone through
pub kept_all : (s : Source) (n at kept : ℕ) (roots : List Node) → map number_of roots ≡ numbers_of (full_roots_of n) → length roots ≤ at
    → HasKept s n roots at kept → IsTrue s.shows → IsSound s.content → kept ≡ kept_of s.content n (map twig_of roots)
unfolding kept_under
kept_all s n at kept roots shape end so_far shows sound =
    let long : length (full_roots_of n) ≤ at =
    omega (arith, end, ap length shape, length-map roots number_of, length-map (full_roots_of n) (λ (t : Subtree). number t.depth t.offset)) in
    sym (ap (λ (trees : List Subtree). kept_under s.content.node trees (map twig_of (drop at roots)) kept) (drop_all at (full_roots_of n) long)) ∙ so_far.left shows sound

-- ---- over every view

-- the roots of a tiling end past its start
ends_past : (s : Source) (trees : List Subtree) (nodes : List Node) (from to low : ℕ) → low ≤ from → Tile trees from to → map number_of nodes ≡ numbers_of trees
    → GivesBelow s low nodes
ends_past s trees [] from to low before tile is = tt
ends_past s [] (node ∷ nodes) from to low before tile is = let clash : node.index ∷ map number_of nodes ≡ [] = is in cc
ends_past s (tree ∷ trees) (node ∷ nodes) from to low before tile is =
    let here : node.index ≡ number tree.depth tree.offset = cc in
    let rest : map number_of nodes ≡ numbers_of trees = cc in
    let size = end_first tree.depth tree.offset in (
      λ d o at ends.
          let same = same_subtree tree.depth tree.offset d o (sym here ∙ sym at) in
          let end = ap (λ (k : ℕ). end_block_of k tree.offset) same.0 ∙ ap (end_block_of d) same.1 in
          absurd (omega (arith, ends, sym end, size, tile.0, before, pow_pos tree.depth)),
      ends_past s trees nodes (end_block_of tree.depth tree.offset) to low (omega (arith, before, tile.0, size)) tile.1 rest,
    )

-- so of all roots those that end by what is kept were given
pub gives_below : (s : Source) (n at kept : ℕ) (roots : List Node) → map number_of roots ≡ numbers_of (full_roots_of n) → HasKept s n roots at kept
    → GivesBelow s kept roots
gives_below s n at kept roots shape so_far =
    let P = λ (node : Node). (d o : ℕ) → number d o ≡ node.index → end_block_of d o ≤ kept → IsGiven s node in
    let first = all_so (IsGiven s) P (λ node gives d o is ends. gives) (take at roots) so_far.given in
    let number_at = λ (tree : Subtree). number tree.depth tree.offset in
    let later : map number_of (drop at roots) ≡ numbers_of (drop at (full_roots_of n)) =
    sym (drop-map number_of at roots) ∙ ap (drop at) shape ∙ drop-map number_at at (full_roots_of n) in
    subst (AllByRecursion P) (take-append-drop at roots)
    (all-append P (take at roots) (drop at roots) first (ends_past s (drop at (full_roots_of n)) (drop at roots) kept n kept (omega arith) so_far.tiles later))
