-- The roots of a shorter log that weren't roots: their numbers rise, and they make the entry of a truncation.
use Rattle.std.proofs.Common.{◌≡◌, ℕ, zero, suc, ◌*◌, ◌≤◌, inl, inr, Bool, true, false, List, [], ◌∷◌, map, slice_get, nat_eq, Some, None, refl, sym, ap, subst, ◌∙◌, arith, if◌then◌else◌}
use Rattle.std.specs.Prelude.{not, ◌||◌}
use Rattle.std.specs.List.{AllByRecursion, filter, list_any}
use Rattle.std.proofs.lemmas.Bool.{cases_Bool, cases_eq, and_parts, eq-eqb, ne_eqb, not-true}
use Rattle.flat_tree.specs.Subtrees.{Subtree, subtree, number, numbers_of, end_block_of, Tile}
use Rattle.flat_tree.specs.Roots.{full_roots_of}
use Rattle.flat_tree.proofs.NumberLemmas.{number_first, number_below, same_depth, same_place}
use Rattle.flat_tree.proofs.RootLemmas.{tile-full}
use Rattle.std.proofs.lemmas.Nat.{pow_pos}
use Rattle.commit_book.specs.declared.commit.Commit.TheVariants.{Truncate}
use Rattle.merkle_nodes.specs.declared.node.Node.{Node}
use Rattle.merkle_nodes.specs.Joined.{Values}
use Rattle.merkle_nodes.specs.Roots.{HasShape}
use Rattle.oplog_form.specs.Nodes.{Rise}
use Rattle.node_set.specs.Contents.{Content, holds, roots, roots_at, node_at, twig_at}
use Rattle.node_set.specs.Closure.{in_closure, is_root, IsFullRoot}
use Rattle.node_set.specs.Changes.{truncate_content, blocks_below, RootsStored}
use Rattle.node_set.specs.Whole.{IsSound}
use Rattle.node_set.proofs.ClosureLemmas.{root_in_closure, root_true, true_root}
use Rattle.node_set.proofs.RootTruth.{root_among, twig_at-some}
use Rattle.node_set.proofs.SoundLemmas.{AllRoots, all_roots, roots_shape, stored_value}
use Rattle.core_forks.specs.Truncations.{is_same_node, fresh_roots}
use Rattle.core_disk.specs.Opened.{values_in}
use Rattle.core_disk.specs.Written.{entry_with, IsEntryOf}
use Rattle.core_disk.proofs.NewNodes.{truncate_new}
use Rattle.core_disk.proofs.RisingRecords.{HasValue, is_among, values_put}

-- ---- their numbers rise

rise_lower : (low high : ℕ) (nodes : List Node) → low ≤ high → Rise high nodes → Rise low nodes
rise_lower low high [] less up = tt
rise_lower low high (node ∷ nodes) less up = (omega (arith, less, up.0), up.1)

-- those of subtrees one behind the other
rise_tile : (trees : List Subtree) (nodes : List Node) (from to : ℕ) → map (λ (node : Node). node.index) nodes ≡ numbers_of trees → Tile trees from to
    → Rise (2 * from) nodes
rise_tile trees [] from to are tile = tt
rise_tile [] (node ∷ nodes) from to are tile = let clash : node.index ∷ map (λ (node : Node). node.index) nodes ≡ [] = are in cc
rise_tile (tree ∷ trees) (node ∷ nodes) from to are tile =
    let first : node.index ≡ number tree.depth tree.offset = cc in
    let rest : map (λ (node : Node). node.index) nodes ≡ numbers_of trees = cc in
    let end = end_block_of tree.depth tree.offset in (
      omega (arith, first, tile.0, number_first tree.depth tree.offset, pow_pos tree.depth),
      rise_lower (suc node.index) (2 * end) nodes (omega (arith, first, number_below tree.depth tree.offset)) (rise_tile trees nodes end to rest tile.1),
    )

pub roots_rise : (nodes : List Node) (n : ℕ) → HasShape nodes n → Rise 0 nodes
roots_rise nodes n shape = rise_tile (full_roots_of n) nodes 0 n shape (tile-full n)

-- and those of some of them
pub rise_filter : (keep : Node → Bool) (nodes : List Node) (least : ℕ) → Rise least nodes → Rise least (filter keep nodes)
rise_filter keep [] least up = tt
rise_filter keep (node ∷ nodes) least up = elim (cases_Bool (keep node)) [
  | inl stays ↦ rw stays (up.0, rise_filter keep nodes (suc node.index) up.1)
  | inr goes ↦ rw goes (rise_lower least (suc node.index) (filter keep nodes) (omega (arith, up.0)) (rise_filter keep nodes (suc node.index) up.1))
]

-- what holds of each holds of some of them
pub all_filter : (P : Node → Type 0) (keep : Node → Bool) (nodes : List Node) → AllByRecursion P nodes → AllByRecursion P (filter keep nodes)
all_filter P keep [] all = tt
all_filter P keep (node ∷ nodes) all = elim (cases_Bool (keep node)) [
  | inl stays ↦ rw stays (all.0, all_filter P keep nodes all.1)
  | inr goes ↦ rw goes (all_filter P keep nodes all.1)
]

-- ---- which there are

among_filter : (keep : Node → Bool) (k : ℕ) (nodes : List Node) → is_among k (filter keep nodes) ≡ true → is_among k nodes ≡ true
among_filter keep k [] here = cc
among_filter keep k (node ∷ nodes) here = elim (cases_eq node.index k) [
  | inl same ↦ rw (eq-eqb node.index k same) refl
  | inr other ↦
      let apart = ne_eqb node.index k other in
      rw apart (among_filter keep k nodes (elim (cases_Bool (keep node)) [
        | inl stays ↦ let found = rw (stays, apart) at here in found
        | inr goes ↦ let found = rw goes at here in found
      ]))
]

-- a number among the full roots is a full root's
root_of_among : (n depth offset : ℕ) (trees : List Subtree) → AllRoots n trees → list_any (λ (k : ℕ). nat_eq k (number depth offset)) (numbers_of trees) ≡ true
    → IsFullRoot n depth offset
root_of_among n depth offset [] all here = cc
root_of_among n depth offset (tree ∷ trees) all here = elim (cases_eq (number tree.depth tree.offset) (number depth offset)) [
  | inr other ↦ let found = rw (ne_eqb (number tree.depth tree.offset) (number depth offset) other) at here in root_of_among n depth offset trees all.1 found
  | inl same ↦
      let deep = same_depth tree.depth tree.offset depth offset same in
      let place = same_place depth tree.offset offset (ap (λ (d : ℕ). number d tree.offset) (sym deep) ∙ same) in
      subst (λ (o : ℕ). IsFullRoot n depth o) place (subst (λ (d : ℕ). IsFullRoot n d tree.offset) deep all.0)
]

among_root : (value : Values) (n depth offset : ℕ) → is_among (number depth offset) (roots_at value n) ≡ true → IsFullRoot n depth offset
among_root value n depth offset here =
    root_of_among n depth offset (full_roots_of n) (all_roots n)
    (sym (ap (list_any (λ (k : ℕ). nat_eq k (number depth offset))) (roots_shape value n)) ∙ here)

-- a node that is as one of the roots has its number
same_among : (nodes : List Node) (node : Node) → list_any (λ (old : Node). is_same_node old node) nodes ≡ true → is_among node.index nodes ≡ true
same_among [] node here = cc
same_among (old ∷ nodes) node here = elim (cases_Bool (is_same_node old node)) [
  | inl same ↦ let both = and_parts (nat_eq old.index node.index) _ same in rw both.0 refl
  | inr other ↦
      let found : list_any (λ (o : Node). is_same_node o node) nodes ≡ true = rw other at here in
      either (nat_eq old.index node.index) (same_among nodes node found)
]
  where
    either : (test : Bool) → is_among node.index nodes ≡ true → (test || is_among node.index nodes) ≡ true
    either true there = refl
    either false there = there

-- a full root that is kept is there
filter_has : (keep : Node → Bool) (value : Values) (depth offset : ℕ) (trees : List Subtree) (place : ℕ) → slice_get trees place ≡ Some (subtree depth offset)
    → keep (node_at value depth offset) ≡ true
    → is_among (number depth offset) (filter keep (map (λ (tree : Subtree). node_at value tree.depth tree.offset) trees)) ≡ true
filter_has keep value depth offset [] place there stays = cc
filter_has keep value depth offset (tree ∷ trees) zero there stays =
    let same : tree ≡ subtree depth offset = cc in
    let here = subst (λ (t : Subtree). keep (node_at value t.depth t.offset) ≡ true) (sym same) stays in
    let own : nat_eq (number tree.depth tree.offset) (number depth offset) ≡ true =
    eq-eqb (number tree.depth tree.offset) (number depth offset) (ap (λ (t : Subtree). number t.depth t.offset) same) in
    rw (here, own) refl
filter_has keep value depth offset (tree ∷ trees) (suc place) there stays =
    let later = filter_has keep value depth offset trees place there stays in
    elim (cases_Bool (keep (node_at value tree.depth tree.offset))) [
      | inr goes ↦ rw goes later
      | inl here ↦ rw here (either (nat_eq (number tree.depth tree.offset) (number depth offset)) later)
    ]
  where
    either : (test : Bool)
        → is_among (number depth offset) (filter keep (map (λ (t : Subtree). node_at value t.depth t.offset) trees)) ≡ true
        → (test || is_among (number depth offset) (filter keep (map (λ (t : Subtree). node_at value t.depth t.offset) trees))) ≡ true
    either true later = refl
    either false later = later

-- ---- the entry of a truncation

module _ (m : Content) (to fork : ℕ) (signature : List ℕ) (sound_after : IsSound (truncate_content to fork signature m)) (stored : RootsStored to m) where
  abbrev after : Content
  after = truncate_content to fork signature m

  abbrev records : List Node
  records = fresh_roots (roots m) (roots_at m.node to)

  abbrev keep : Node → Bool
  keep root = not (list_any (λ (old : Node). is_same_node old root) (roots m))

  -- each root has its node's value
  have_values : AllByRecursion (HasValue (λ d o. Some (twig_at m.node d o))) records
  have_values = all_filter (HasValue (λ d o. Some (twig_at m.node d o))) keep (roots_at m.node to) (each (full_roots_of to))
    where
      each : (trees : List Subtree)
          → AllByRecursion (HasValue (λ d o. Some (twig_at m.node d o))) (map (λ (tree : Subtree). node_at m.node tree.depth tree.offset) trees)
      each [] = tt
      each (tree ∷ trees) = (own tree, each trees)
        where
          own : (tree : Subtree) → HasValue (λ d o. Some (twig_at m.node d o)) (node_at m.node tree.depth tree.offset)
          own tree depth offset is =
              let deep = same_depth tree.depth tree.offset depth offset is in
              let place = same_place depth tree.offset offset (ap (λ (d : ℕ). number d tree.offset) (sym deep) ∙ is) in
              ap (λ (d : ℕ). Some (twig_at m.node d offset)) (sym deep) ∙ ap (λ (o : ℕ). Some (twig_at m.node tree.depth o)) (sym place)

  put : (depth offset : ℕ) → values_in records depth offset ≡ (if is_among (number depth offset) records then Some (twig_at m.node depth offset) else None)
  put depth offset = values_put (λ d o. Some (twig_at m.node d o)) records (λ d o. None) depth offset have_values

  -- a full root is stored as it was
  root_value : (depth offset : ℕ) → IsFullRoot to depth offset → Some (twig_at m.node depth offset) ≡ after.node depth offset
  root_value depth offset root =
      let closed : in_closure to (holds (blocks_below to m.block)) depth offset ≡ true = root_in_closure to (holds
      (blocks_below to m.block)) depth offset root in
      let value = stored_value (m.node depth offset) (stored depth offset (root_true to depth offset root)) in
      let same : after.node depth offset ≡ m.node depth offset = rw closed refl in
      ap Some (twig_at-some m.node depth offset value.0 value.1) ∙ sym value.1 ∙ sym same

  pub truncate_entry : Rise 0 records → IsEntryOf m (Truncate to fork) after (entry_with (Truncate to fork) after records)
  truncate_entry order = record {
    commit_is = refl;
    head_is = refl;
    order = order;
    stored = λ depth offset twig is. elim (cases_Bool (is_among (number depth offset) records)) [
      | inr none ↦ let clash : None ≡ Some twig = sym (put depth offset ∙ rw none refl) ∙ is in cc
      | inl here ↦
          let there : values_in records depth offset ≡ Some (twig_at m.node depth offset) = put depth offset ∙ rw here refl in
          let root = among_root m.node to depth offset (among_filter keep (number depth offset) (roots_at m.node to) here) in
          sym (root_value depth offset root) ∙ sym there ∙ is
    ];
    new = λ depth offset new.
        let both = and_parts (is_root to depth offset) (not (is_root m.length depth offset))
        (sym (truncate_new m to fork signature sound_after depth offset) ∙ new) in
        let root = true_root to depth offset both.0 in
        let among = root_among to depth offset root.within root.largest in
        let here = filter_has keep m.node depth offset (full_roots_of to) among.0 among.1 (is_kept depth offset (not-true
        (is_root m.length depth offset) both.1)) in
        put depth offset ∙ rw here (root_value depth offset root);
  }
    where
      -- it wasn't a root
      is_kept : (depth offset : ℕ) → is_root m.length depth offset ≡ false → keep (node_at m.node depth offset) ≡ true
      is_kept depth offset no_root = elim (cases_Bool (list_any (λ (old : Node). is_same_node old (node_at m.node depth offset)) (roots m))) [
        | inr none ↦ rw none refl
        | inl here ↦
            let was = root_true m.length depth offset (among_root m.node m.length depth offset (same_among (roots m) (node_at m.node depth offset) here)) in
            let clash : true ≡ false = sym was ∙ no_root in
            cc
      ]
