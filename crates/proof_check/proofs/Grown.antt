-- The nodes of a grown log behind the old end: its roots, and the halves from the first level on.
use Rattle.std.proofs.Common.{◌≡◌, ℕ, zero, suc, Bool, true, false, ◌+◌, ◌-◌, ◌*◌, ◌/◌, ◌<◌, ◌≤◌, ◌⊎◌, inl, inr, List, [], ◌∷◌, length, drop, slice_get, Option, Some, None, refl, sym, ap, subst, ◌∙◌, arith}
use Rattle.std.specs.Prelude.{is_some, option_map}
use Rattle.std.specs.List.{Contains}
use Rattle.std.proofs.lemmas.Bool.{cases_lt, cases_Bool, not_from_false}
use Rattle.std.proofs.lemmas.Option.{slice_get_within, slice_get_read}
use Rattle.flat_tree.specs.Subtrees.{Subtree, subtree, number, end_block_of}
use Rattle.flat_tree.specs.Roots.{full_roots_of, depth_over}
use Rattle.flat_tree.proofs.CoverLemmas.{cover-full}
use Rattle.flat_tree.proofs.NumberLemmas.{inside_only}
use Rattle.merkle_nodes.specs.declared.node.Node.{Node}
use Rattle.merkle_nodes.specs.declared.node.Twig.{Twig}
use Rattle.merkle_nodes.specs.Joined.{Values}
use Rattle.merkle_nodes.specs.Nodes.{node_in, AreNodes}
use Rattle.merkle_nodes.specs.Roots.{node_of}
use Rattle.merkle_nodes.proofs.JoinedValues.{node_in-value}
use Rattle.node_set.specs.Closure.{any_under, in_closure, is_within, IsFullRoot}
use Rattle.node_set.specs.Nodes.{with_nodes}
use Rattle.node_set.proofs.AppendLemmas.{all_get}
use Rattle.node_set.proofs.ClosureLemmas.{half_cases, half_left, half_right, true_closure, true_within, true_not_within, root_in_closure, any_under-held, inside_up}
use Rattle.node_set.proofs.CoverLemmas.{between_true, not_between, IsCover, cover_has}
use Rattle.node_set.proofs.SoundLemmas.{all_roots}
use Rattle.proof_check.specs.declared.upgrade.Joined.{Joined}
use Rattle.proof_check.specs.Growth.{last_over, HasJoined, IsFirstHeld}
use Rattle.proof_check.specs.Meets.{IsPart, HasNode, AllIn, behind_end}
use Rattle.proof_check.proofs.Folding.{same_subtree}
use Rattle.proof_check.proofs.Overs.{over_within, over_past}
use Rattle.proof_check.proofs.Meeting.{inside_stored, any_higher_le, get_both}

-- ---- lists and values

-- no node puts nothing in
pub part_none : (value : Values) → IsPart value []
unfolding with_nodes
part_none value d o twig there = cc

-- a part that has all is the whole
pub part_all : (value : Values) (nodes : List Node) → IsPart value nodes → ((d o : ℕ) (twig : Twig) → value d o ≡ Some twig → HasNode nodes d o)
    → (d o : ℕ) → with_nodes (λ e p. None) nodes d o ≡ value d o
part_all value nodes part all d o = either (with_nodes (λ e p. None) nodes d o) (value d o) refl refl
  where
    either : (found own : Option Twig) → with_nodes (λ e p. None) nodes d o ≡ found → value d o ≡ own → found ≡ own
    either (Some twig) own found_is own_is = sym (part d o twig found_is) ∙ own_is
    either None (Some twig) found_is own_is =
        let clash : false ≡ true = sym (ap is_some found_is) ∙ all d o twig own_is in
        cc
    either None None found_is own_is = refl

-- the rest of a list
get_rest : {X : Type 0} (xs : List X) (from place : ℕ) → slice_get (drop from xs) place ≡ slice_get xs (from + place)
get_rest xs zero place = ap (slice_get xs) (omega arith)
get_rest [] (suc from) place = refl
get_rest (x ∷ xs) (suc from) place =
    let next : suc from + place ≡ suc (from + place) = omega arith in
    get_rest xs from place ∙ sym (ap (slice_get (x ∷ xs)) next)

some_same : {A : Type 0} (x y : A) → Some x ≡ Some y → x ≡ y
some_same x y same = cc

some_at : {X : Type 0} (xs : List X) (place : ℕ) → place < length xs → (x : X) × (slice_get xs place ≡ Some x)
some_at [] place less = absurd (omega (arith, less))
some_at (x ∷ xs) zero less = (x, refl)
some_at (x ∷ xs) (suc place) less = some_at xs place (omega (arith, less))

node_number : (value : Values) (d o : ℕ) (node : Node) → node_in value (subtree d o) ≡ Some node → node.index ≡ number d o
node_number value d o node is = either (value d o) refl
  where
    either : (own : Option Twig) → value d o ≡ own → node.index ≡ number d o
    either (Some twig) there =
        let same : node_of d o twig ≡ node = some_same (node_of d o twig) node (sym (ap (option_map (node_of d o)) there) ∙ is) in
        sym (ap (λ (n : Node). n.index) same)
    either None there = let clash : None ≡ Some node = sym (ap (option_map (node_of d o)) there) ∙ is in cc

-- ---- a grown log

module _ (base to first : ℕ) (held : ℕ → Bool) (value : Values) (j : Joined) (longer : base ≤ to) (below : (block : ℕ) → held block ≡ true → block < base)
    (is_first : IsFirstHeld base held j.low (depth_over to (base - 1)) first) (has : HasJoined base to value j) where
  abbrev target : Values
  target = behind_end base to held value

  -- a stored value behind the old end
  target_is : (d o : ℕ) → base < end_block_of d o → in_closure to held d o ≡ true → target d o ≡ value d o
  target_is d o past stored = elim (cases_Bool (is_within base d o)) [
    | inl within ↦ absurd (omega (arith, true_within base d o within, past))
    | inr behind ↦ rw (behind, stored) refl
  ]

  -- the halves at a level from the first one on are stored
  half_stored : (level o : ℕ) → first ≤ level → level < depth_over to (base - 1) → o / 2 ≡ last_over base (suc level) → in_closure to held level o ≡ true
  half_stored level o from low up =
      let some = is_first.some (omega (arith, from, low)) in
      let any = any_higher_le held (base - 1) (suc first) (suc level) (omega (arith, from)) some in
      let there = any_under-held held (suc level) (last_over base (suc level)) any in
      let within = over_within to (base - 1) (suc level) (omega (arith, longer, below there.index there.is_held)) (omega (arith, low)) in
      inside_stored to held level o (omega (arith, within, ap (end_block_of (suc level)) up)) ∙ ap (any_under held (suc level)) up ∙ any

  halves_in : (nodes : List Node) (side : ℕ → ℕ) → ((q : ℕ) → side q / 2 ≡ q)
      → ((level : ℕ) → j.low ≤ level → level < depth_over to (base - 1) → slice_get nodes (level - j.low) ≡ node_in value (subtree level (side (last_over base (suc level)))))
      → j.low + length nodes ≡ depth_over to (base - 1) → AllIn target base (drop (first - j.low) nodes)
  halves_in nodes side up are many place d o node there index past =
      let level = first + place in
      let rest = sym (get_rest nodes (first - j.low) place) ∙ there in
      let at : level - j.low ≡ first - j.low + place = omega (arith, is_first.low_is) in
      let less = slice_get_within nodes (first - j.low + place) node rest in
      let low : level < depth_over to (base - 1) = omega (arith, less, many, is_first.low_is) in
      let own = side (last_over base (suc level)) in
      let mine = sym (are level (omega (arith, is_first.low_is)) low) ∙ ap (slice_get nodes) at ∙ rest in
      let same = same_subtree level own d o (sym (node_number value level own node mine) ∙ index) in
      let stored = half_stored level own (omega arith) low (up (last_over base (suc level))) in
      let place_is : value level own ≡ value d o = ap (λ (k : ℕ). value k own) same.0 ∙ ap (value d) same.1 in
      let stored_is : in_closure to held d o ≡ true = sym (ap (λ (k : ℕ). in_closure to held k own) same.0 ∙ ap (in_closure to held d) same.1) ∙ stored in
      target_is d o past stored_is ∙ sym place_is ∙ node_in-value value (subtree level own) node mine

  pub lefts_in : j.low + length j.lefts ≡ depth_over to (base - 1) → AllIn target base (drop (first - j.low) j.lefts)
  lefts_in = halves_in j.lefts (λ q. 2 * q) half_left (λ level from low. (has.at_halves level from low).at_left)

  pub rights_in : j.low + length j.rights ≡ depth_over to (base - 1) → AllIn target base (drop (first - j.low) j.rights)
  rights_in = halves_in j.rights (λ q. 2 * q + 1) half_right (λ level from low. (has.at_halves level from low).at_right)

  tree_at : (nodes : List Node) (trees : List Subtree) (place : ℕ) (node : Node) → AreNodes value trees nodes → slice_get nodes place ≡ Some node
      → (tree : Subtree) × (slice_get trees place ≡ Some tree)
  tree_at [] trees place node are there = cc
  tree_at (n ∷ nodes) [] place node are there = cc
  tree_at (n ∷ nodes) (t ∷ trees) zero node are there = (t, refl)
  tree_at (n ∷ nodes) (t ∷ trees) (suc place) node are there =
      let tails : AreNodes value trees nodes = cc in
      tree_at nodes trees place node tails there

  node_at_tree : (nodes : List Node) (trees : List Subtree) (place : ℕ) (tree : Subtree) → AreNodes value trees nodes → slice_get trees place ≡ Some tree
      → (node : Node) × (slice_get nodes place ≡ Some node)
  node_at_tree [] [] place tree are there = cc
  node_at_tree [] (t ∷ trees) place tree are there = cc
  node_at_tree (n ∷ nodes) [] place tree are there = cc
  node_at_tree (n ∷ nodes) (t ∷ trees) zero tree are there = (n, refl)
  node_at_tree (n ∷ nodes) (t ∷ trees) (suc place) tree are there =
      let tails : AreNodes value trees nodes = cc in
      node_at_tree nodes trees place tree tails there

  pub roots_in : AllIn target base j.roots
  roots_in place d o node there index past =
      let tree = tree_at j.roots (full_roots_of to) place node has.at_roots there in
      let mine = sym (get_both Some (node_in value) j.roots (full_roots_of to) place node tree.0 has.at_roots there tree.1) in
      let same = same_subtree tree.0.depth tree.0.offset d o (sym (node_number value tree.0.depth tree.0.offset node mine) ∙ index) in
      let root = all_get (λ (t : Subtree). IsFullRoot to t.depth t.offset) (full_roots_of to) place tree.0 (all_roots to) tree.1 in
      let stored = root_in_closure to held tree.0.depth tree.0.offset root in
      let stored_is : in_closure to held d o ≡ true =
      sym (ap (λ (k : ℕ). in_closure to held k tree.0.offset) same.0 ∙ ap (in_closure to held d) same.1) ∙ stored in
      let place_is : value tree.0.depth tree.0.offset ≡ value d o = ap (λ (k : ℕ). value k tree.0.offset) same.0 ∙ ap (value d) same.1 in
      target_is d o past stored_is ∙ sym place_is ∙ node_in-value value tree.0 node mine

  -- ---- all of them

  -- where a value of the target stands
  pub record IsListed (d o : ℕ) : Type 0 where
    pub past : base < end_block_of d o
    pub where_is : IsFullRoot to d o ⊎ ((first ≤ d) × (d < depth_over to (base - 1)) × (o / 2 ≡ last_over base (suc d)))

  listed_half : (0 < base → j.low ≡ depth_over base (base - 1)) → (d o : ℕ) → base < end_block_of d o → end_block_of (suc d) (o / 2) ≤ to
      → any_under held (suc d) (o / 2) ≡ true → IsListed d o
  listed_half low_is d o past within any =
      let there = any_under-held held (suc d) (o / 2) any in
      let under = below there.index there.is_held in
      let up = inside_up d o in
      let over : o / 2 ≡ last_over base (suc d) = sym (inside_only (suc d) (o / 2) (base - 1) (omega (arith, there.under.0, under)) (omega (arith, past, up))) in
      let end = ap (end_block_of (suc d)) over in
      let low_d : j.low ≤ d = elim (cases_lt d j.low) [
        | inr fits ↦ fits
        | inl lower ↦
            let low = low_is (omega (arith, under)) in
            absurd (omega (arith, over_within base (base - 1) (suc d) (omega (arith, under)) (omega (arith, lower, low)), end, past, up))
      ] in
      let below_top : d < depth_over to (base - 1) = elim (cases_lt d (depth_over to (base - 1))) [
        | inl less ↦ less
        | inr high ↦ absurd (omega (arith, over_past to (base - 1) (suc d) (omega (arith, under, longer)) (omega (arith, high)), end, within))
      ] in
      let from : first ≤ d = elim (cases_lt d first) [
        | inr fits ↦ fits
        | inl before ↦
            let clash : true ≡ false = sym any ∙ ap (any_under held (suc d)) over ∙ is_first.none d low_d before in
            cc
      ] in
      record { past = past; where_is = inr (from, below_top, over) }

  listed : (0 < base → j.low ≡ depth_over base (base - 1)) → (d o : ℕ) (twig : Twig) → target d o ≡ Some twig → IsListed d o
  listed low_is d o twig is = elim (cases_Bool (is_within base d o)) [
    | inl within ↦ let clash : None ≡ Some twig = sym (rw within refl) ∙ is in cc
    | inr behind ↦ elim (cases_Bool (in_closure to held d o)) [
      | inr absent ↦ let clash : None ≡ Some twig = sym (rw (behind, absent) refl) ∙ is in cc
      | inl stored ↦
          let past = true_not_within base d o (not_from_false (is_within base d o) behind) in
          let closure = true_closure to held d o stored in
          elim (cases_lt to (end_block_of (suc d) (o / 2))) [
            | inl largest ↦ record { past = past; where_is = inl (record { within = closure.within; largest = largest }) }
            | inr within ↦ elim closure.why [
              | inl largest ↦ absurd (omega (arith, largest, within))
              | inr any ↦ listed_half low_is d o past within any
            ]
          ]
    ]
  ]

  -- what lists put in that have a node at each of their places behind the old end
  pub record PutsAll (nodes fresh : List Node) : Type 0 where
    pub all : (place d o : ℕ) (node : Node) → slice_get nodes place ≡ Some node → node.index ≡ number d o → base < end_block_of d o → HasNode fresh d o

  root_has : (fresh : List Node) → PutsAll j.roots fresh → (d o : ℕ) → base < end_block_of d o → IsFullRoot to d o → HasNode fresh d o
  root_has fresh puts d o past root =
      let cover : IsCover 0 to d o = record {
        within = between_true 0 to d o (record { first = omega arith; last = root.within });
        largest = not_between 0 to (suc d) (o / 2) (λ between. omega (arith, between.last, root.largest));
      } in
      let there : Contains (full_roots_of to) (subtree d o) = subst (λ (ts : List Subtree). Contains ts (subtree d o)) (cover-full to) (cover_has 0 to d o (omega arith) cover) in
      let tree = slice_get_read (full_roots_of to) (length (full_roots_of to)) there.0 (subtree d o) refl there.1 (sym there.2) in
      let node = node_at_tree j.roots (full_roots_of to) there.0 (subtree d o) has.at_roots tree in
      let mine = sym (get_both Some (node_in value) j.roots (full_roots_of to) there.0 node.0 (subtree d o) has.at_roots node.1 tree) in
      puts.all there.0 d o node.0 node.1 (node_number value d o node.0 mine) past

  half_has : (nodes fresh : List Node) (d o : ℕ) → PutsAll (drop (first - j.low) nodes) fresh → slice_get nodes (d - j.low) ≡ node_in value (subtree d o)
      → j.low + length nodes ≡ depth_over to (base - 1) → first ≤ d → d < depth_over to (base - 1) → base < end_block_of d o → HasNode fresh d o
  half_has nodes fresh d o puts are many from below_top past =
      let node = some_at nodes (d - j.low) (omega (arith, many, from, below_top, is_first.low_is)) in
      let at : first - j.low + (d - first) ≡ d - j.low = omega (arith, from, is_first.low_is) in
      let rest = get_rest nodes (first - j.low) (d - first) ∙ ap (slice_get nodes) at ∙ node.1 in
      puts.all (d - first) d o node.0 rest (node_number value d o node.0 (sym are ∙ node.1)) past

  pub grown_all : (0 < base → j.low ≡ depth_over base (base - 1)) → (fresh : List Node) → j.low + length j.lefts ≡ depth_over to (base - 1)
      → j.low + length j.rights ≡ depth_over to (base - 1) → PutsAll (drop (first - j.low) j.lefts) fresh → PutsAll (drop (first - j.low) j.rights) fresh
      → PutsAll j.roots fresh → (d o : ℕ) (twig : Twig) → target d o ≡ Some twig → HasNode fresh d o
  grown_all low_is fresh lefts_are rights_are lefts_put rights_put roots_put d o twig is =
      let here = listed low_is d o twig is in
      elim here.where_is [
        | inl root ↦ root_has fresh roots_put d o here.past root
        | inr half ↦
            let halves = has.at_halves d (omega (arith, half.0, is_first.low_is)) half.1 in
            elim (half_cases o) [
              | inl left ↦
                  let own : subtree d (2 * last_over base (suc d)) ≡ subtree d o = ap (subtree d) (sym (left ∙ ap (λ (q : ℕ). 2 * q) half.2)) in
                  half_has j.lefts fresh d o lefts_put (halves.at_left ∙ ap (node_in value) own) lefts_are half.0 half.1 here.past
              | inr right ↦
                  let own : subtree d (2 * last_over base (suc d) + 1) ≡ subtree d o = ap (subtree d) (sym (right ∙ ap (λ (q : ℕ). 2 * q + 1) half.2)) in
                  half_has j.rights fresh d o rights_put (halves.at_right ∙ ap (node_in value) own) rights_are half.0 half.1 here.past
            ]
      ]
