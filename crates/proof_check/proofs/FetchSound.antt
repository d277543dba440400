-- A sound content stays sound where a block comes in whose path meets a stored node.
use Rattle.std.proofs.Common.{◌≡◌, ◌≢◌, ℕ, zero, suc, Bool, true, false, ◌+◌, ◌-◌, ◌*◌, ◌/◌, ◌%◌, ◌^◌, ◌<◌, ◌≤◌, ◌⊎◌, inl, inr, List, [], ◌∷◌, length, take, Option, Some, None, refl, sym, ap, subst, ◌∙◌, arith, slice_index_or}
use Rattle.std.specs.Prelude.{is_some}
use Rattle.std.specs.List.{AllByRecursion}
use Rattle.std.proofs.lemmas.Bool.{cases_lt, cases_eq, cases_Bool, lt-ltb, le-ltb, eq-eqb, ne_eqb}
use Rattle.std.proofs.lemmas.Nat.{shr-shr}
use Rattle.flat_tree.specs.Subtrees.{end_block_of}
use Rattle.flat_tree.specs.Roots.{depth_over}
use Rattle.flat_tree.specs.declared.limits.TheConstants.{MAX_BLOCK_BYTES, MAX_CORE_BYTES}
use Rattle.flat_tree.proofs.NumberLemmas.{inside_only}
use Rattle.blake2b_hash.proofs.Hashes.{length_hash_of}
use Rattle.merkle_nodes.specs.declared.node.Twig.{Twig}
use Rattle.merkle_nodes.specs.declared.node.Node.{Node}
use Rattle.merkle_nodes.specs.Tree.{leaf_of, parent_of}
use Rattle.merkle_nodes.specs.Bundle.{TwigFits}
use Rattle.merkle_nodes.specs.Fold.{join, fold_from}
use Rattle.merkle_nodes.specs.Joined.{or_value}
use Rattle.merkle_nodes.specs.Roots.{Accepts}
use Rattle.node_set.specs.Contents.{Content, Blocks, Values, holds, held, roots_at, roots, bytes_under, no_twig}
use Rattle.node_set.specs.Closure.{any_under, in_closure, IsUnder}
use Rattle.node_set.specs.Paths.{sibling_of, folded_at, path_values}
use Rattle.node_set.specs.Walks.{IsFirstStored}
use Rattle.node_set.specs.Whole.{BlocksFit, IsSound, IsWhole}
use Rattle.node_set.specs.Changes.{blocks_with_one, fetch_content}
use Rattle.node_set.proofs.Stored.{half_cases, over-suc}
use Rattle.node_set.proofs.ClosureLemmas.{half_left, half_right, true_closure, closure_true, any_under-held, held-any_under, any_under-up, halves_in_closure, closure_under}
use Rattle.node_set.proofs.SoundLemmas.{stored_value, IsComplete, sound_on, complete_of, roots_on, roots_same, fit_below}
use Rattle.node_set.proofs.OffsetTruth.{path_within}
use Rattle.node_set.proofs.PathLemmas.{root_over_stored}
use Rattle.node_set.proofs.RootTruth.{some_or_none}
use Rattle.node_set.proofs.KeepsWhole.{own_roots}

-- one level more of a fold
pub fold_step : (offset : ℕ) (node : Twig) (trail : List Twig) (level : ℕ) → level < length trail
    → folded_at offset node trail (suc level) ≡ join (offset / 2 ^ level) (folded_at offset node trail level) (slice_index_or trail level no_twig)
unfolding fold_from
fold_step offset node [] level less = absurd (omega (arith, less))
fold_step offset node (twig ∷ trail) zero less = let same : offset ≡ offset / 2 ^ 0 = omega arith in ap (λ (o : ℕ). join o node twig) same
fold_step offset node (twig ∷ trail) (suc level) less =
    let deeper : 1 + level ≡ suc level = omega arith in
    let place : offset / 2 / 2 ^ level ≡ offset / 2 ^ suc level = shr-shr offset 1 level ∙ ap (λ (k : ℕ). offset / 2 ^ k) deeper in
    fold_step (offset / 2) (join offset node twig) trail level (omega (arith, less))
    ∙ ap (λ (o : ℕ). join o (folded_at (offset / 2) (join offset node twig) trail level) (slice_index_or trail level no_twig)) place

-- a fold has a hash of 32 bytes
fold_hash : (trail : List Twig) (offset : ℕ) (node : Twig) → length node.hash ≡ 32 → length (fold_from offset node trail).hash ≡ 32
unfolding fold_from
fold_hash [] offset node wide = wide
fold_hash (twig ∷ trail) offset node wide = fold_hash trail (offset / 2) (join offset node twig) (elim (cases_eq (offset % 2) 1) [
  | inl odd ↦ rw (eq-eqb (offset % 2) 1 odd) (length_hash_of _)
  | inr even ↦ rw (ne_eqb (offset % 2) 1 even) (length_hash_of _)
])

trail_fits : (trail : List Twig) (level : ℕ) → AllByRecursion TwigFits trail → level < length trail → TwigFits (slice_index_or trail level no_twig)
trail_fits [] level fits less = absurd (omega (arith, less))
trail_fits (twig ∷ trail) zero fits less = fits.0
trail_fits (twig ∷ trail) (suc level) fits less = trail_fits trail level fits.1 (omega (arith, less))

pub none_of : {A : Type 0} (found : Option A) → is_some found ≡ false → found ≡ None
none_of None none = refl
none_of (Some x) none = cc

-- a held block under a node of a path is under each node of the path above
any_up : (set : ℕ → Bool) (index depth levels : ℕ) → any_under set depth (index / 2 ^ depth) ≡ true
    → any_under set (depth + levels) (index / 2 ^ (depth + levels)) ≡ true
any_up set index depth zero any = let same : depth ≡ depth + 0 = omega arith in subst (λ (d : ℕ). any_under set d (index / 2 ^ d) ≡ true) same any
any_up set index depth (suc levels) any =
    let up = any_under-up set depth (index / 2 ^ depth) any in
    let over : any_under set (suc depth) (index / 2 ^ suc depth) ≡ true = subst (λ (o : ℕ). any_under set (suc depth) o ≡ true) (over-suc index depth) up in
    let same : suc depth + levels ≡ depth + suc levels = omega arith in
    subst (λ (d : ℕ). any_under set d (index / 2 ^ d) ≡ true) same (any_up set index (suc depth) levels over)

-- the block is in range, and its siblings reach the first stored node of its path, which is what they fold to
pub record Joins (m : Content) (at : ℕ) (bytes : List ℕ) (trail : List Twig) (top : ℕ) : Type 0 where
  pub within : at < m.length
  pub size : length bytes ≤ MAX_BLOCK_BYTES
  pub fits : AllByRecursion TwigFits trail
  pub enough : top ≤ length trail
  pub first : IsFirstStored m.length (held m) at top
  pub meets : m.node top (at / 2 ^ top) ≡ Some (folded_at at (leaf_of bytes) trail top)

-- ---- the path's values

module _ (at : ℕ) (node : Twig) (trail : List Twig) (top : ℕ) where
  abbrev path : Values
  path = path_values at node trail top

  path_on : (d : ℕ) → d < top → path d (at / 2 ^ d) ≡ Some (folded_at at node trail d)
  path_on d low = rw (lt-ltb d top low, eq-eqb (at / 2 ^ d) (at / 2 ^ d) refl) refl

  beside : (o : ℕ) → sibling_of o ≢ o
  beside o same = omega (arith, same)

  path_beside : (d : ℕ) → d < top → path d (sibling_of (at / 2 ^ d)) ≡ Some (slice_index_or trail d no_twig)
  path_beside d low =
      rw (lt-ltb d top low, ne_eqb (sibling_of (at / 2 ^ d)) (at / 2 ^ d) (beside (at / 2 ^ d)), eq-eqb (sibling_of (at / 2 ^ d)) (sibling_of (at / 2 ^ d)) refl) refl

  path_past : (d o : ℕ) → top ≤ d → path d o ≡ None
  path_past d o past = rw (le-ltb d top past) refl

  path_off : (d o : ℕ) → o ≢ at / 2 ^ d → o ≢ sibling_of (at / 2 ^ d) → path d o ≡ None
  path_off d o not_on not_beside = elim (cases_lt d top) [
    | inl low ↦ rw (lt-ltb d top low, ne_eqb o (at / 2 ^ d) not_on, ne_eqb o (sibling_of (at / 2 ^ d)) not_beside) refl
    | inr past ↦ path_past d o past
  ]

-- ---- the content with the block in

module _ (m : Content) (sound : IsSound m) (at : ℕ) (bytes : List ℕ) (trail : List Twig) (top : ℕ) (joins : Joins m at bytes trail top) where
  abbrev n : ℕ
  n = m.length

  abbrev block : Blocks
  block = blocks_with_one at bytes m.block

  abbrev own : Values
  own = path_values at (leaf_of bytes) trail top

  abbrev value : Values
  value d o = or_value (m.node d o) (own d o)

  here : block at ≡ Some bytes
  here = rw (eq-eqb at at refl) refl

  elsewhere : (index : ℕ) → index ≢ at → block index ≡ m.block index
  elsewhere index other = rw (ne_eqb index at other) refl

  new_or_old : (index : ℕ) → holds block index ≡ true → (index ≡ at) ⊎ (held m index ≡ true)
  new_or_old index is_held = elim (cases_eq index at) [
    | inl same ↦ inl same
    | inr other ↦ inr (ap is_some (sym (elsewhere index other)) ∙ is_held)
  ]

  old_held : (index : ℕ) → held m index ≡ true → holds block index ≡ true
  old_held index is_held = elim (cases_eq index at) [
    | inl same ↦ ap (λ (i : ℕ). holds block i) same ∙ ap is_some here
    | inr other ↦ ap is_some (elsewhere index other) ∙ is_held
  ]

  under : (d o : ℕ) → any_under (holds block) d o ≡ true → IsUnder at d o ⊎ (any_under (held m) d o ≡ true)
  under d o any =
      let there = any_under-held (holds block) d o any in
      elim (new_or_old there.index there.is_held) [
        | inl same ↦ inl (subst (λ (i : ℕ). IsUnder i d o) same there.under)
        | inr old ↦ inr (held-any_under (held m) d o there.index old there.under)
      ]

  over : (d o : ℕ) → IsUnder at d o → at / 2 ^ d ≡ o
  over d o is = inside_only d o at is.0 is.1

  -- a subtree over the block under which no block is held is at or below the first stored node
  is_low : (d : ℕ) → end_block_of (suc d) (at / 2 ^ suc d) ≤ n → any_under (held m) (suc d) (at / 2 ^ suc d) ≡ false → d < top
  is_low d within none = elim (cases_lt d top) [
    | inl low ↦ low
    | inr past ↦
        let closure = true_closure n (held m) top (at / 2 ^ top) joins.first.stored in
        let meet : suc top + (d - top) ≡ suc d = omega (arith, past) in
        let lower : end_block_of (suc top) (at / 2 ^ suc top) ≤ n = path_within n at (suc d) (d - top) (suc top) meet within in
        elim closure.why [
          | inl root ↦
              let same : end_block_of (suc top) (at / 2 ^ top / 2) ≡ end_block_of (suc top) (at / 2 ^ suc top) = ap (end_block_of (suc top)) (over-suc at top) in
              absurd (omega (arith, root, same, lower))
          | inr any ↦
              let over_top : any_under (held m) (suc top) (at / 2 ^ suc top) ≡ true =
              subst (λ (o : ℕ). any_under (held m) (suc top) o ≡ true) (over-suc at top) any in
              let up = any_up (held m) at (suc top) (d - top) over_top in
              let all : any_under (held m) (suc d) (at / 2 ^ suc d) ≡ true = subst (λ (k : ℕ). any_under (held m) k (at / 2 ^ k) ≡ true) meet up in
              let clash : true ≡ false = sym all ∙ none in
              cc
        ]
  ]

  -- below it neither the path nor its siblings are stored
  none_on : (d : ℕ) → d < top → m.node d (at / 2 ^ d) ≡ None
  none_on d low = none_of (m.node d (at / 2 ^ d)) (sound.closed d (at / 2 ^ d) ∙ joins.first.first d low)

  none_under : (d : ℕ) → d < top → end_block_of (suc d) (at / 2 ^ suc d) ≤ n → any_under (held m) (suc d) (at / 2 ^ suc d) ≡ false
  none_under d low within = elim (cases_Bool (any_under (held m) (suc d) (at / 2 ^ suc d))) [
    | inr none ↦ none
    | inl any ↦
        let stored = halves_in_closure n (held m) d (at / 2 ^ suc d) (at / 2 ^ d) (over-suc at d) any within in
        let clash : true ≡ false = sym stored ∙ joins.first.first d low in
        cc
  ]

  -- the subtrees of the path are in the log
  path_in : (d : ℕ) → d < top → end_block_of (suc d) (at / 2 ^ suc d) ≤ n
  path_in d low =
      let root = depth_over n at in
      let inside = (true_closure n (held m) root (at / 2 ^ root) (root_over_stored n (held m) at joins.within)).within in
      path_within n at root (root - suc d) (suc d) (omega (arith, low, joins.first.within)) inside

  none_beside : (d : ℕ) → d < top → m.node d (sibling_of (at / 2 ^ d)) ≡ None
  none_beside d low =
      let within = path_in d low in
      let parent : sibling_of (at / 2 ^ d) / 2 ≡ at / 2 ^ suc d = omega (arith, over-suc at d) in
      none_of (m.node d (sibling_of (at / 2 ^ d))) (elim (cases_Bool (in_closure n (held m) d (sibling_of (at / 2 ^ d)))) [
        | inr apart ↦ sound.closed d (sibling_of (at / 2 ^ d)) ∙ apart
        | inl test ↦
            let any = closure_under n (held m) d (at / 2 ^ suc d) (sibling_of (at / 2 ^ d)) parent test within in
            let clash : true ≡ false = sym any ∙ none_under d low within in
            cc
      ])

  -- ---- values

  value_old : (d o : ℕ) (twig : Twig) → m.node d o ≡ Some twig → value d o ≡ Some twig
  value_old d o twig is = rw is refl

  value_new : (d o : ℕ) → m.node d o ≡ None → value d o ≡ own d o
  value_new d o none = rw none refl

  value_on : (d : ℕ) → d < top → value d (at / 2 ^ d) ≡ Some (folded_at at (leaf_of bytes) trail d)
  value_on d low = value_new d (at / 2 ^ d) (none_on d low) ∙ path_on at (leaf_of bytes) trail top d low

  value_beside : (d : ℕ) → d < top → value d (sibling_of (at / 2 ^ d)) ≡ Some (slice_index_or trail d no_twig)
  value_beside d low = value_new d (sibling_of (at / 2 ^ d)) (none_beside d low) ∙ path_beside at (leaf_of bytes) trail top d low

  value_over : (d : ℕ) → d < top
      → value (suc d) (at / 2 ^ suc d) ≡ Some (join (at / 2 ^ d) (folded_at at (leaf_of bytes) trail d) (slice_index_or trail d no_twig))
  value_over d low =
      let step = fold_step at (leaf_of bytes) trail d (omega (arith, low, joins.enough)) in
      elim (cases_lt (suc d) top) [
        | inl lower ↦ value_on (suc d) lower ∙ ap Some step
        | inr last ↦
            let same : top ≡ suc d = omega (arith, low, last) in
            let meets : m.node (suc d) (at / 2 ^ suc d) ≡ Some (folded_at at (leaf_of bytes) trail (suc d)) =
            subst (λ (k : ℕ). m.node k (at / 2 ^ k) ≡ Some (folded_at at (leaf_of bytes) trail k)) same joins.meets in
            value_old (suc d) (at / 2 ^ suc d) (folded_at at (leaf_of bytes) trail (suc d)) meets ∙ ap Some step
      ]

  same_twig : (d o : ℕ) (one other : Twig) → value d o ≡ Some one → value d o ≡ Some other → one ≡ other
  same_twig d o one other is also = let both : Some one ≡ Some other = sym is ∙ also in cc

  new_pair : (d : ℕ) (left right : Twig) → d < top → value d (2 * (at / 2 ^ suc d)) ≡ Some left → value d (2 * (at / 2 ^ suc d) + 1) ≡ Some right
      → value (suc d) (at / 2 ^ suc d) ≡ Some (parent_of left right)
  new_pair d left right low left_is right_is =
      let p = at / 2 ^ d in
      let node = folded_at at (leaf_of bytes) trail d in
      let sibling = slice_index_or trail d no_twig in
      elim (half_cases p) [
        | inl is_left ↦
            let on : 2 * (at / 2 ^ suc d) ≡ p = omega (arith, is_left, over-suc at d) in
            let next : 2 * (at / 2 ^ suc d) + 1 ≡ sibling_of p = omega (arith, is_left, over-suc at d) in
            let one : node ≡ left = same_twig d p node left (value_on d low) (subst (λ (o : ℕ). value d o ≡ Some left) on left_is) in
            let other : sibling ≡ right = same_twig d (sibling_of p) sibling right (value_beside d low) (subst (λ (o : ℕ). value d o ≡ Some right) next right_is) in
            let even : p % 2 ≢ 1 = λ odd. omega (arith, is_left, odd) in
            let joined : join p node sibling ≡ parent_of node sibling = rw (ne_eqb (p % 2) 1 even) refl in
            value_over d low ∙ ap Some (joined ∙ ap (λ (t : Twig). parent_of t sibling) one ∙ ap (parent_of left) other)
        | inr is_right ↦
            let next : 2 * (at / 2 ^ suc d) ≡ sibling_of p = omega (arith, is_right, over-suc at d) in
            let on : 2 * (at / 2 ^ suc d) + 1 ≡ p = omega (arith, is_right, over-suc at d) in
            let one : node ≡ right = same_twig d p node right (value_on d low) (subst (λ (o : ℕ). value d o ≡ Some right) on right_is) in
            let other : sibling ≡ left = same_twig d (sibling_of p) sibling left (value_beside d low) (subst (λ (o : ℕ). value d o ≡ Some left) next left_is) in
            let odd : p % 2 ≡ 1 = omega (arith, is_right) in
            let joined : join p node sibling ≡ parent_of sibling node = rw (eq-eqb (p % 2) 1 odd) refl in
            value_over d low ∙ ap Some (joined ∙ ap (λ (t : Twig). parent_of t node) other ∙ ap (parent_of left) one)
      ]

  -- ---- all of the closure has a value

  old_some : (d o : ℕ) → in_closure n (held m) d o ≡ true → is_some (value d o) ≡ true
  old_some d o test = let stored = stored_value (m.node d o) (sound.closed d o ∙ test) in ap is_some (value_old d o stored.0 stored.1)

  either_half : (d o : ℕ) → d < top → o / 2 ≡ at / 2 ^ suc d → is_some (value d o) ≡ true
  either_half d o low half =
      let p = at / 2 ^ d in
      elim (cases_eq o p) [
        | inl on ↦ subst (λ (k : ℕ). is_some (value d k) ≡ true) (sym on) (ap is_some (value_on d low))
        | inr off ↦
            let next : sibling_of p ≡ o = omega (arith, off, half, over-suc at d) in
            subst (λ (k : ℕ). is_some (value d k) ≡ true) next (ap is_some (value_beside d low))
      ]

  full : (d o : ℕ) → in_closure n (holds block) d o ≡ true → is_some (value d o) ≡ true
  full d o test =
      let closure = true_closure n (holds block) d o test in
      elim (cases_lt n (end_block_of (suc d) (o / 2))) [
        | inl past ↦ old_some d o (closure_true n (held m) d o (record { within = closure.within; why = inl past }))
        | inr within ↦
            let any = closure_under n (holds block) d (o / 2) o refl test within in
            elim (cases_Bool (any_under (held m) (suc d) (o / 2))) [
              | inl old ↦ old_some d o (closure_true n (held m) d o (record { within = closure.within; why = inr old }))
              | inr none ↦ elim (under (suc d) (o / 2) any) [
                | inr old ↦ let clash : true ≡ false = sym old ∙ none in cc
                | inl is ↦
                    let half = over (suc d) (o / 2) is in
                    let low = is_low d (subst (λ (k : ℕ). end_block_of (suc d) k ≤ n) (sym half) within)
                    (subst (λ (k : ℕ). any_under (held m) (suc d) k ≡ false) (sym half) none) in
                    either_half d o low (sym half)
              ]
            ]
      ]

  pairs : (d o : ℕ) (left right : Twig) → end_block_of (suc d) o ≤ n → any_under (holds block) (suc d) o ≡ true → value d (2 * o) ≡ Some left
      → value d (2 * o + 1) ≡ Some right → value (suc d) o ≡ Some (parent_of left right)
  pairs d o left right within any left_is right_is = elim (cases_Bool (any_under (held m) (suc d) o)) [
    | inl old ↦
        let complete = complete_of m sound in
        let l = stored_value (m.node d (2 * o)) (complete.full d (2 * o) (halves_in_closure n (held m) d o (2 * o) (half_left o) old within)) in
        let r = stored_value (m.node d (2 * o + 1)) (complete.full d (2 * o + 1) (halves_in_closure n (held m) d o (2 * o + 1) (half_right o) old within)) in
        let one : l.0 ≡ left = same_twig d (2 * o) l.0 left (value_old d (2 * o) l.0 l.1) left_is in
        let other : r.0 ≡ right = same_twig d (2 * o + 1) r.0 right (value_old d (2 * o + 1) r.0 r.1) right_is in
        value_old (suc d) o (parent_of l.0 r.0) (complete.pairs d o l.0 r.0 within old l.1 r.1)
        ∙ ap Some (ap (λ (t : Twig). parent_of t r.0) one ∙ ap (parent_of left) other)
    | inr none ↦ elim (under (suc d) o any) [
      | inr old ↦ let clash : true ≡ false = sym old ∙ none in cc
      | inl is ↦
          let same = over (suc d) o is in
          let low = is_low d (subst (λ (k : ℕ). end_block_of (suc d) k ≤ n) (sym same) within) (subst (λ (k : ℕ). any_under (held m) (suc d) k ≡ false) (sym same) none) in
          subst (λ (k : ℕ). value (suc d) k ≡ Some (parent_of left right)) same
          (new_pair d left right low (subst (λ (k : ℕ). value d (2 * k) ≡ Some left) (sym same) left_is)
          (subst (λ (k : ℕ). value d (2 * k + 1) ≡ Some right) (sym same) right_is))
    ]
  ]

  complete : IsComplete n block value
  complete = record { full = full; pairs = pairs }

  -- ---- leaves

  own_leaf : value 0 at ≡ Some (leaf_of bytes)
  unfolding fold_from
  own_leaf =
      let same : at / 2 ^ 0 ≡ at = omega arith in
      elim (cases_eq top 0) [
        | inl zero_top ↦
            let meets : m.node 0 (at / 2 ^ 0) ≡ Some (leaf_of bytes) = subst (λ (k : ℕ). m.node k (at / 2 ^ k) ≡ Some (folded_at at (leaf_of bytes) trail k)) zero_top joins.meets in
            value_old 0 at (leaf_of bytes) (subst (λ (o : ℕ). m.node 0 o ≡ Some (leaf_of bytes)) same meets)
        | inr some ↦ subst (λ (o : ℕ). value 0 o ≡ Some (leaf_of bytes)) same (value_on 0 (omega (arith, some)))
      ]

  leaves : (index : ℕ) (own_bytes : List ℕ) → block index ≡ Some own_bytes → value 0 index ≡ Some (leaf_of own_bytes)
  leaves index own_bytes is = elim (cases_eq index at) [
    | inr other ↦ value_old 0 index (leaf_of own_bytes) (sound.leaves index own_bytes (sym (elsewhere index other) ∙ is))
    | inl same ↦
        let both : Some bytes ≡ Some own_bytes = sym here ∙ ap block (sym same) ∙ is in
        let equal : bytes ≡ own_bytes = cc in
        ap (λ (k : ℕ). value 0 k) same ∙ own_leaf ∙ ap (λ (b : List ℕ). Some (leaf_of b)) equal
  ]

  fits_block : BlocksFit n block
  fits_block = record {
    below = λ index own_bytes is. elim (cases_eq index at) [
      | inl same ↦ omega (arith, same, joins.within)
      | inr other ↦ sound.blocks.below index own_bytes (sym (elsewhere index other) ∙ is)
    ];
    size = λ index own_bytes is. elim (cases_eq index at) [
      | inr other ↦ sound.blocks.size index own_bytes (sym (elsewhere index other) ∙ is)
      | inl same ↦
          let both : Some bytes ≡ Some own_bytes = sym here ∙ ap block (sym same) ∙ is in
          let equal : bytes ≡ own_bytes = cc in
          subst (λ (b : List ℕ). length b ≤ MAX_BLOCK_BYTES) equal joins.size
    ];
  }

  -- ---- hashes

  path_hash : (d o : ℕ) (twig : Twig) → own d o ≡ Some twig → length twig.hash ≡ 32
  path_hash d o twig is = elim (cases_lt d top) [
    | inr past ↦ let clash : None ≡ Some twig = sym (path_past at (leaf_of bytes) trail top d o past) ∙ is in cc
    | inl low ↦ elim (cases_eq o (at / 2 ^ d)) [
      | inl on ↦
          let both : Some (folded_at at (leaf_of bytes) trail d) ≡ Some twig =
          sym (path_on at (leaf_of bytes) trail top d low) ∙ sym (ap (own d) on) ∙ is in
          let same : folded_at at (leaf_of bytes) trail d ≡ twig = cc in
          ap (λ (t : Twig). length t.hash) (sym same) ∙ fold_hash (take d trail) at (leaf_of bytes) (length_hash_of _)
      | inr off ↦ elim (cases_eq o (sibling_of (at / 2 ^ d))) [
        | inl next ↦
            let both : Some (slice_index_or trail d no_twig) ≡ Some twig =
            sym (path_beside at (leaf_of bytes) trail top d low) ∙ sym (ap (own d) next) ∙ is in
            let same : slice_index_or trail d no_twig ≡ twig = cc in
            ap (λ (t : Twig). length t.hash) (sym same) ∙ (trail_fits trail d joins.fits (omega (arith, low, joins.enough))).hash
        | inr apart ↦ let clash : None ≡ Some twig = sym (path_off at (leaf_of bytes) trail top d o off apart) ∙ is in cc
      ]
    ]
  ]

  hashes : (d o : ℕ) (twig : Twig) → value d o ≡ Some twig → length twig.hash ≡ 32
  hashes d o twig is = elim (some_or_none (m.node d o)) [
    | inl stored ↦
        let same = same_twig d o stored.0 twig (value_old d o stored.0 stored.1) is in
        ap (λ (t : Twig). length t.hash) (sym same) ∙ (sound.fit d o stored.0 stored.1).hash
    | inr none ↦ path_hash d o twig (sym (value_new d o none) ∙ is)
  ]

  roots_stay : roots_at value n ≡ roots m
  roots_stay = roots_same n value m.node (λ d o root.
      let stored = stored_value (m.node d o) (own_roots m sound d o root) in value_old d o stored.0 stored.1 ∙ sym stored.1)

  pub fetch_roots : roots (fetch_content at bytes own m) ≡ roots m
  fetch_roots = roots_on n block value ∙ roots_stay

  pub fetch_sound : bytes_under (roots m) ≤ MAX_CORE_BYTES → IsSound (fetch_content at bytes own m)
  fetch_sound few = sound_on n block value m.fork m.signature (record {
    blocks = fits_block;
    complete = complete;
    leaves = leaves;
    fit = fit_below n block value complete (subst (λ (nodes : List Node). bytes_under nodes ≤ MAX_CORE_BYTES) (sym roots_stay) few) hashes;
  })

-- so a whole content stays whole
pub fetch_whole : (accepts : List ℕ → List ℕ → Bool) (m : Content) (at : ℕ) (bytes : List ℕ) (trail : List Twig) (top : ℕ) → IsWhole accepts m
    → Joins m at bytes trail top → IsWhole accepts (fetch_content at bytes (path_values at (leaf_of bytes) trail top) m)
fetch_whole accepts m at bytes trail top whole joins =
    let same : roots m ≡ roots (fetch_content at bytes (path_values at (leaf_of bytes) trail top) m) = sym (fetch_roots m whole.sound at bytes trail top joins) in
    record {
      sound = fetch_sound m whole.sound at bytes trail top joins whole.limits.bytes;
      limits = record {
        blocks = whole.limits.blocks;
        fork = whole.limits.fork;
        bytes = subst (λ (nodes : List Node). bytes_under nodes ≤ MAX_CORE_BYTES) same whole.limits.bytes;
        signature = whole.limits.signature;
      };
      head = elim whole.head [
        | inl accepted ↦ inl (subst (λ (nodes : List Node). Accepts accepts m.fork m.length nodes m.signature) same accepted)
        | inr fresh ↦ inr (record { fork = fresh.fork; empty = fresh.empty; unsigned = fresh.unsigned })
      ];
    }
