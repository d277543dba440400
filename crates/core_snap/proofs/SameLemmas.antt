-- Two reads of one index up to one root: one block, or two different inputs of equal hash.
use Rattle.std.proofs.Common.{◌≡◌, ℕ, zero, suc, true, false, ◌+◌, ◌/◌, ◌%◌, ◌^◌, ◌≤◌, ◌==◌, if◌then◌else◌, ◌⊎◌, inl, inr, Bool, List, [], ◌∷◌, ◌++◌, length, map, Some, None, slice_get, refl, sym, ap, subst, ◌∙◌, arith, add-one}
use Rattle.std.specs.Prelude.{Option, Ok, Err, is_some}
use Rattle.std.specs.List.{AllByRecursion, range_with_len}
use Rattle.std.proofs.lemmas.Bool.{cases_eq, cases_lt, eq-eqb, lt-ltb, le-ltb}
use Rattle.std.proofs.lemmas.Nat.{shr-shr}
use Rattle.std.proofs.lemmas.List.FromFn.{map-range_with_len_more, length-map-range_with_len}
use Rattle.blake2b_hash.specs.Blake2b.{hash_of}
use Rattle.blake2b_hash.proofs.Hashes.{length_hash_of}
use Rattle.flat_tree.specs.Subtrees.{end_block_of}
use Rattle.flat_tree.specs.Roots.{place_over, depth_over}
use Rattle.merkle_nodes.specs.declared.node.Node.{Node}
use Rattle.merkle_nodes.specs.declared.node.Twig.{Twig}
use Rattle.merkle_nodes.specs.Tree.{u64_bytes, leaf_input, leaf_of, parent_input, parent_of}
use Rattle.merkle_nodes.specs.Roots.{twig_of}
use Rattle.merkle_nodes.specs.Fold.{join, fold, fold_from}
use Rattle.merkle_nodes.specs.Sound.{HasHash, join_input, fold_inputs, path_inputs, Clash}
use Rattle.merkle_nodes.proofs.Inputs.{Contains-first, Contains-later, same_or_clash, split_same}
use Rattle.node_set.specs.declared.fault.CoreFault.TheVariants.{OutOfRange}
use Rattle.node_set.specs.Contents.{Content, Values, held, twig_at}
use Rattle.node_set.specs.Paths.{trail_at, sibling_of}
use Rattle.node_set.specs.Whole.{IsSound}
use Rattle.node_set.specs.Same.{is_stored_as}
use Rattle.node_set.proofs.Stored.{stored_within, some_of, some_same}
use Rattle.core_snap.specs.declared.snapshot.Snapshot.{Snapshot}
use Rattle.core_snap.specs.Reads.{Answer, has_root_over, answer_if, snap_read, SameRead}
use Rattle.core_snap.proofs.FoldLemmas.{pair_joined, fold_from-push}
use Rattle.core_snap.proofs.WayLemmas.{sibling_stored, stored_is}

-- ---- two ways up to equal tops

-- a clash with one more input of each
clash_both : (x y : List ℕ) (xs ys : List (List ℕ)) → Clash xs ys → Clash (x ∷ xs) (y ∷ ys)
clash_both x y xs ys c = record {
  one = c.one;
  other = c.other;
  in_xs = Contains-later x c.one xs c.in_xs;
  in_ys = Contains-later y c.other ys c.in_ys;
  differ = c.differ;
  equal = c.equal;
}

-- equal inputs of parents have equal halves
parent_split : (l r m s : Twig) → HasHash l → HasHash r → HasHash m → HasHash s → parent_input l r ≡ parent_input m s → (l.hash ≡ m.hash) × (r.hash ≡ s.hash)
parent_split l r m s wl wr wm ws same =
    let both = split_same ((1 ∷ u64_bytes (l.size + r.size)) ++ l.hash) ((1 ∷ u64_bytes (m.size + s.size)) ++ m.hash) r.hash s.hash
    (ap (λ (k : ℕ). suc (suc (suc (suc (suc (suc (suc (suc (suc k))))))))) (wl ∙ sym wm)) same in
    ((split_same (1 ∷ u64_bytes (l.size + r.size)) (1 ∷ u64_bytes (m.size + s.size)) l.hash m.hash refl both.0).1, both.1)

join-hash : (offset : ℕ) (node sibling : Twig) → (join offset node sibling).hash ≡ hash_of (join_input offset node sibling)
join-hash offset node sibling =
    elim (offset % 2 == 1) as (λ (b : Bool). (if b then parent_of sibling node else parent_of node sibling).hash
    ≡ hash_of (if b then parent_input sibling node else parent_input node sibling)) [
      | true ↦ refl
      | false ↦ refl
    ]

-- what is hashed for a right half, and for a left one
right_input : (offset : ℕ) (node sibling : Twig) → offset % 2 ≡ 1 → join_input offset node sibling ≡ parent_input sibling node
right_input offset node sibling right = rw (eq-eqb (offset % 2) 1 right) refl

left_input : (offset : ℕ) (node sibling : Twig) → offset % 2 ≡ 0 → join_input offset node sibling ≡ parent_input node sibling
left_input offset node sibling left = rw left refl

-- where the inputs are equal, so are the nodes' hashes
own_half : (offset : ℕ) (x s y t : Twig) → HasHash x → HasHash s → HasHash y → HasHash t → join_input offset x s ≡ join_input offset y t → x.hash ≡ y.hash
own_half offset x s y t wx ws wy wt same = elim (cases_eq (offset % 2) 1) [
  | inl right ↦
      let turned : parent_input s x ≡ parent_input t y = sym (right_input offset x s right) ∙ same ∙ right_input offset y t right in
      (parent_split s x t y ws wx wt wy turned).1
  | inr left ↦
      let none : offset % 2 ≡ 0 = omega (arith, left) in
      let straight : parent_input x s ≡ parent_input y t = sym (left_input offset x s none) ∙ same ∙ left_input offset y t none in
      (parent_split x s y t wx ws wy wt straight).0
]

-- all the way down
descend : (offset : ℕ) (x y : Twig) (xs ys : List Twig) → HasHash x → HasHash y → AllByRecursion HasHash xs → AllByRecursion HasHash ys
    → length xs ≡ length ys → (fold_from offset x xs).hash ≡ (fold_from offset y ys).hash
    → (x.hash ≡ y.hash) ⊎ Clash (fold_inputs offset x xs) (fold_inputs offset y ys)
unfolding fold_from fold_inputs
descend offset x y [] [] wx wy wide_xs wide_ys long same = inl same
descend offset x y [] (t ∷ ys) wx wy wide_xs wide_ys long same = absurd (omega (arith, long))
descend offset x y (s ∷ xs) [] wx wy wide_xs wide_ys long same = absurd (omega (arith, long))
descend offset x y (s ∷ xs) (t ∷ ys) wx wy wide_xs wide_ys long same =
    let up = join offset x s in
    let over = join offset y t in
    let wide = λ (node sibling : Twig). ap length (join-hash offset node sibling) ∙ length_hash_of _ in
    elim (descend (offset / 2) up over xs ys (wide x s) (wide y t) wide_xs.1 wide_ys.1 (omega (arith, long)) same) [
      | inr clash ↦ inr (clash_both _ _ _ _ clash)
      | inl equal ↦
          let first = join_input offset x s in
          let second = join_input offset y t in
          let ones = fold_inputs (offset / 2) up xs in
          let others = fold_inputs (offset / 2) over ys in
          let hashes = sym (join-hash offset x s) ∙ equal ∙ join-hash offset y t in
          elim (same_or_clash (first ∷ ones) (second ∷ others) first second (Contains-first first ones) (Contains-first second others) hashes) [
            | inr clash ↦ inr clash
            | inl inputs ↦ inl (own_half offset x s y t wx wide_xs.0 wy wide_ys.0 inputs)
          ]
    ]

-- two blocks that fold to one hash
pub folds_same : (roots : List Node) (index : ℕ) (one other : List ℕ) (xs ys : List Twig) → AllByRecursion HasHash xs → AllByRecursion HasHash ys
    → length xs ≡ length ys → (fold index one xs).hash ≡ (fold index other ys).hash
    → (one ≡ other) ⊎ Clash (path_inputs roots index one xs) (path_inputs roots index other ys)
folds_same roots index one other xs ys wide_xs wide_ys long same =
    let ones = fold_inputs index (leaf_of one) xs in
    let others = fold_inputs index (leaf_of other) ys in
    let first = leaf_input one in
    let second = leaf_input other in
    elim (descend index (leaf_of one) (leaf_of other) xs ys (length_hash_of _) (length_hash_of _) wide_xs wide_ys long same) [
      | inr clash ↦ inr (clash_both _ _ _ _ (clash_both _ _ _ _ clash))
      | inl equal ↦ elim (same_or_clash (first ∷ ones) (second ∷ others) first second (Contains-first first ones) (Contains-first second others) equal) [
        | inr clash ↦ inr (clash_both _ _ _ _ clash)
        | inl inputs ↦ inl (split_same (0 ∷ u64_bytes (length one)) (0 ∷ u64_bytes (length other)) one other refl inputs).1
      ]
    ]

-- ---- what a content answers folds to the root

-- a trail of stored nodes, or of blanks, has hashes
trail_hashes : (node : Values) → ((depth offset : ℕ) (twig : Twig) → node depth offset ≡ Some twig → HasHash twig) → (index : ℕ) (levels : List ℕ)
    → AllByRecursion HasHash (map (λ level. twig_at node (0 + level) (sibling_of (index / 2 ^ level))) levels)
trail_hashes node wide index [] = tt
trail_hashes node wide index (level ∷ levels) = (
  each (node (0 + level) (sibling_of (index / 2 ^ level))) refl,
  trail_hashes node wide index levels,
)
  where
    each : (found : Option Twig) → node (0 + level) (sibling_of (index / 2 ^ level)) ≡ found → HasHash (twig_at node (0 + level) (sibling_of (index / 2 ^ level)))
    each (Some twig) is = rw is (wide (0 + level) (sibling_of (index / 2 ^ level)) twig is)
    each None is = rw is refl

module _ (m : Content) (sound : IsSound m) (index levels : ℕ) (there : held m index ≡ true) (inside : end_block_of levels (index / 2 ^ levels) ≤ m.length)
    (leaf : Twig) (at_leaf : m.node 0 index ≡ Some leaf) where
  -- each node of the way up is what the siblings below it fold to
  pub way_folds : (level rest : ℕ) → level + rest ≡ levels → m.node level (index / 2 ^ level) ≡ Some (fold_from index leaf (trail_at m.node 0 index level))
  unfolding fold_from
  way_folds zero rest meet =
      let whole : index / 2 ^ 0 ≡ index = omega arith in
      ap (m.node 0) whole ∙ at_leaf
  way_folds (suc level) rest meet =
      let offset = index / 2 ^ level in
      let own = fold_from index leaf (trail_at m.node 0 index level) in
      let beside = some_of (m.node level (sibling_of offset))
      (sound.closed level (sibling_of offset) ∙ sibling_stored m.length (held m) index levels there inside level rest meet) in
      let parent = pair_joined m.node sound.pairs level offset own beside.0 (way_folds level (suc rest) (omega (arith, meet))) beside.1 in
      let step = λ (l : ℕ). twig_at m.node (0 + l) (sibling_of (index / 2 ^ l)) in
      let depth : 0 + level ≡ level = omega arith in
      let last : step level ≡ beside.0 = ap (λ (d : ℕ). twig_at m.node d (sibling_of offset)) depth ∙ found_twig level (sibling_of offset) beside.0 beside.1 in
      let long = length-map-range_with_len step 0 level in
      let longer = ap (trail_at m.node 0 index) (sym (add-one level)) ∙ map-range_with_len_more step 0 level level depth ∙ ap (λ (t : Twig). trail_at m.node 0 index level ++ t ∷ []) last in
      let folded = ap (fold_from index leaf) longer ∙ fold_from-push index leaf (trail_at m.node 0 index level) beside.0 ∙ ap (λ (k : ℕ). join (index / 2 ^ k) own beside.0) long in
      ap (λ (d : ℕ). m.node d (index / 2 ^ suc level)) (sym (add-one level)) ∙ ap (m.node (level + 1)) (sym (shr-shr index level 1 ∙ ap (λ (k : ℕ). index / 2 ^ k) (add-one level))) ∙ parent ∙ ap Some (sym folded)
    where
      found_twig : (depth offset : ℕ) (twig : Twig) → m.node depth offset ≡ Some twig → twig_at m.node depth offset ≡ twig
      found_twig depth offset twig is = rw is refl

-- ---- what a snapshot read tells

-- a block was there, with this trail
answer_from : (stored : Bool) (found : Option (List ℕ)) (trail : List Twig) (index : ℕ) (one : Answer) → answer_if stored found trail index ≡ Ok one
    → (stored ≡ true) × (found ≡ Some one.block) × (one.trail ≡ trail)
answer_from true (Some block) trail index one is =
    let same : one ≡ record { block = block; trail = trail } = cc in
    (refl, ap (λ (a : Answer). Some a.block) (sym same), ap (λ (a : Answer). a.trail) same)
answer_from true None trail index one is = cc
answer_from false found trail index one is = cc

-- the index is below, the root stands in the content, and the block is held
record Told (m : Content) (snap : Snapshot) (index : ℕ) (one : Answer) : Type 0 where
  root : Node
  at : slice_get snap.roots (place_over snap.length index) ≡ Some root
  stored : is_stored_as (m.node (depth_over snap.length index) (index / 2 ^ depth_over snap.length index)) (twig_of root) ≡ true
  block : m.block index ≡ Some one.block
  trail : one.trail ≡ trail_at m.node 0 index (depth_over snap.length index)

told : (m : Content) (snap : Snapshot) (index : ℕ) (one : Answer) → snap_read m snap index ≡ Ok one → Told m snap index one
told m snap index one is = elim (cases_lt index snap.length) [
  | inr past ↦
      let none : snap_read m snap index ≡ Err (OutOfRange snap.length) = rw (le-ltb index snap.length past) refl in
      let clash : Err (OutOfRange snap.length) ≡ Ok one = sym none ∙ is in
      cc
  | inl inside ↦
      let depth = depth_over snap.length index in
      let given : snap_read m snap index ≡ answer_if (has_root_over m snap index) (m.block index) (trail_at m.node 0 index depth) index =
      rw (lt-ltb index snap.length inside) refl in
      let parts = answer_from (has_root_over m snap index) (m.block index) (trail_at m.node 0 index depth) index one (sym given ∙ is) in
      with_root (slice_get snap.roots (place_over snap.length index)) refl parts.0 parts.1 parts.2
]
  where
    with_root : (found : Option Node) → slice_get snap.roots (place_over snap.length index) ≡ found → has_root_over m snap index ≡ true
        → m.block index ≡ Some one.block → one.trail ≡ trail_at m.node 0 index (depth_over snap.length index) → Told m snap index one
    with_root None here test block trail =
        let none : has_root_over m snap index ≡ false = rw here refl in
        let clash : false ≡ true = sym none ∙ test in
        cc
    with_root (Some root) here test block trail =
        let as_test : has_root_over m snap index
        ≡ is_stored_as (m.node (depth_over snap.length index) (index / 2 ^ depth_over snap.length index)) (twig_of root) = rw here refl in
        record { root = root; at = here; stored = sym as_test ∙ test; block = block; trail = trail }

-- so its block and trail fold to this root
record Folds (snap : Snapshot) (index : ℕ) (one : Answer) (root : Node) : Type 0 where
  folds : fold index one.block one.trail ≡ twig_of root
  path : length one.trail ≡ depth_over snap.length index
  wide : AllByRecursion HasHash one.trail

told_folds : (m : Content) (snap : Snapshot) (index : ℕ) (one : Answer) → IsSound m → (t : Told m snap index one) → Folds snap index one t.root
told_folds m snap index one sound t =
    let depth = depth_over snap.length index in
    let top = stored_is _ _ t.stored in
    let there : held m index ≡ true = ap is_some t.block in
    let inside = stored_within m sound.closed depth (index / 2 ^ depth) (twig_of t.root) top in
    let leaf = sound.leaves index one.block t.block in
    let way = way_folds m sound index depth there inside (leaf_of one.block) leaf depth 0 (omega arith) in
    let hashes = trail_hashes m.node (λ d o twig is. (sound.fit d o twig is).hash) index (range_with_len 0 depth) in
    record {
      folds = ap (fold_from index (leaf_of one.block)) t.trail ∙ some_same _ _ (sym way ∙ top);
      path = ap length t.trail ∙ length-map-range_with_len _ 0 depth;
      wide = subst (AllByRecursion HasHash) (sym t.trail) hashes;
    }

-- the theorem
pub same_read : (snap : Snapshot) (m n : Content) (index : ℕ) (one other : Answer) → IsSound m → IsSound n
    → snap_read m snap index ≡ Ok one → snap_read n snap index ≡ Ok other → SameRead snap index one other
same_read snap m n index one other sound sound_too is is_too =
    let t = told m snap index one is in
    let u = told n snap index other is_too in
    let f = told_folds m snap index one sound t in
    let g = told_folds n snap index other sound_too u in
    let root : t.root ≡ u.root = some_same _ _ (sym t.at ∙ u.at) in
    let tops = f.folds ∙ ap twig_of root ∙ sym g.folds in
    folds_same snap.roots index one.block other.block one.trail other.trail f.wide g.wide (f.path ∙ sym g.path) (ap (λ (w : Twig). w.hash) tops)
