-- The first stored node of a block's path at or above a level, once an upgrade is in.
use Rattle.std.proofs.Common.{◌≡◌, ℕ, zero, suc, Bool, true, false, ◌+◌, ◌-◌, ◌*◌, ◌/◌, ◌%◌, ◌^◌, ◌<◌, ◌≤◌, inl, inr, List, [], ◌∷◌, map, slice_get, Option, Some, None, refl, sym, ap, subst, ◌∙◌, arith, max}
use Rattle.std.proofs.Math.Pow.{shr_mono}
use Rattle.std.proofs.lemmas.Nat.{mul-le}
use Rattle.std.proofs.lemmas.Bool.{cases_lt, cases_eq, cases_Bool}
use Rattle.flat_tree.specs.Subtrees.{Subtree, subtree, first_block_of, end_block_of}
use Rattle.flat_tree.specs.Roots.{full_roots_of, depth_over}
use Rattle.flat_tree.proofs.OverLemmas.{IsOver}
use Rattle.flat_tree.proofs.NumberLemmas.{inside_of, inside_only}
use Rattle.merkle_nodes.specs.declared.node.Node.{Node}
use Rattle.merkle_nodes.specs.Joined.{Values}
use Rattle.merkle_nodes.specs.Nodes.{node_in, AreNodes}
use Rattle.merkle_nodes.specs.Roots.{twig_of}
use Rattle.merkle_nodes.proofs.JoinedValues.{node_in-value}
use Rattle.node_set.specs.Closure.{any_under, in_closure, IsFullRoot}
use Rattle.node_set.specs.Walks.{IsFirstStored}
use Rattle.node_set.proofs.ClosureLemmas.{halves_in_closure, closure_under, held-any_under, any_under-up}
use Rattle.node_set.proofs.PathLemmas.{first_is_root}
use Rattle.node_set.proofs.Stored.{over-suc}
use Rattle.proof_check.specs.declared.path.Met.{Met}
use Rattle.proof_check.specs.Growth.{last_over, AreHalves, IsFirstHeld, IsBeside}
use Rattle.proof_check.specs.Meets.{NoneBelow, FoundBelow, IsFrom}
use Rattle.proof_check.proofs.Overs.{nested_le, over_within, over_past, deeper}
use Rattle.proof_check.proofs.Splitting.{next_first}
use Rattle.proof_check.proofs.HeldLemmas.{none_past, any_leaf}
use Rattle.std.specs.Prelude.{is_some, ◌||◌}

-- ---- the closure below the roots

-- below a root a node is stored exactly where a block under its parent is held
pub inside_stored : (n : ℕ) (held : ℕ → Bool) (d o : ℕ) → end_block_of (suc d) (o / 2) ≤ n → in_closure n held d o ≡ any_under held (suc d) (o / 2)
inside_stored n held d o within = elim (cases_Bool (any_under held (suc d) (o / 2))) [
  | inl any ↦ halves_in_closure n held d (o / 2) o refl any within ∙ sym any
  | inr none ↦ elim (cases_Bool (in_closure n held d o)) [
    | inl stored ↦ let clash : true ≡ false = sym (closure_under n held d (o / 2) o refl stored within) ∙ none in cc
    | inr absent ↦ absent ∙ sym none
  ]
]

-- on a path, at levels below the root
pub path_stored : (n : ℕ) (held : ℕ → Bool) (index level : ℕ) → index < n → level < depth_over n index
    → in_closure n held level (index / 2 ^ level) ≡ any_under held (suc level) (index / 2 ^ suc level)
path_stored n held index level within low =
    let end = over_within n index (suc level) within (omega (arith, low)) in
    let same = over-suc index level in
    inside_stored n held level (index / 2 ^ level) (omega (arith, end, ap (end_block_of (suc level)) same)) ∙ ap (any_under held (suc level)) same

-- so a longer log stores the same below the roots of a shorter one
pub path_same : (base to : ℕ) (held : ℕ → Bool) (index level : ℕ) → index < base → base ≤ to → level < depth_over base index
    → in_closure to held level (index / 2 ^ level) ≡ in_closure base held level (index / 2 ^ level)
path_same base to held index level within longer low =
    path_stored to held index level (omega (arith, within, longer)) (omega (arith, low, deeper base to index within longer))
    ∙ sym (path_stored base held index level within low)

-- a held block under a path's node is under each higher one
pub any_higher : (held : ℕ → Bool) (index low k : ℕ) → any_under held low (index / 2 ^ low) ≡ true → any_under held (low + k) (index / 2 ^ (low + k)) ≡ true
any_higher held index low zero any = let same : low ≡ low + 0 = omega arith in subst (λ (d : ℕ). any_under held d (index / 2 ^ d) ≡ true) same any
any_higher held index low (suc k) any =
    let up = any_under-up held (low + k) (index / 2 ^ (low + k)) (any_higher held index low k any) in
    let same : suc (low + k) ≡ low + suc k = omega arith in
    subst (λ (d : ℕ). any_under held d (index / 2 ^ d) ≡ true) same
    (subst (λ (o : ℕ). any_under held (suc (low + k)) o ≡ true) (over-suc index (low + k)) up)

pub any_higher_le : (held : ℕ → Bool) (index low high : ℕ) → low ≤ high → any_under held low (index / 2 ^ low) ≡ true → any_under held high (index / 2 ^ high) ≡ true
any_higher_le held index low high less any =
    let meet : low + (high - low) ≡ high = omega (arith, less) in
    subst (λ (d : ℕ). any_under held d (index / 2 ^ d) ≡ true) meet (any_higher held index low (high - low) any)

-- ---- two paths that have met

-- paths that are one at a level are one above
pub same_higher : (one other low k : ℕ) → one / 2 ^ low ≡ other / 2 ^ low → one / 2 ^ (low + k) ≡ other / 2 ^ (low + k)
same_higher one other low zero same = let here : low ≡ low + 0 = omega arith in subst (λ (d : ℕ). one / 2 ^ d ≡ other / 2 ^ d) here same
same_higher one other low (suc k) same =
    let lower = same_higher one other low k same in
    let up : one / 2 ^ suc (low + k) ≡ other / 2 ^ suc (low + k) =
    sym (over-suc one (low + k)) ∙ ap (λ (o : ℕ). o / 2) lower ∙ over-suc other (low + k) in
    let here : suc (low + k) ≡ low + suc k = omega arith in
    subst (λ (d : ℕ). one / 2 ^ d ≡ other / 2 ^ d) here up

pub same_higher_le : (one other low high : ℕ) → low ≤ high → one / 2 ^ low ≡ other / 2 ^ low → one / 2 ^ high ≡ other / 2 ^ high
same_higher_le one other low high less same =
    let meet : low + (high - low) ≡ high = omega (arith, less) in
    subst (λ (d : ℕ). one / 2 ^ d ≡ other / 2 ^ d) meet (same_higher one other low (high - low) same)

-- blocks under one node within a length have one root
pub same_root : (n one other level : ℕ) → one < n → other < n → level ≤ depth_over n one → one / 2 ^ level ≡ other / 2 ^ level
    → depth_over n one ≡ depth_over n other
same_root n one other level one_in other_in low same =
    let top = depth_over n one in
    let at_top = same_higher_le one other level top low same in
    let past_top = same_higher_le one other level (suc top) (omega (arith, low)) same in
    let end = over_within n one top one_in (omega arith) in
    let over = over_past n one (suc top) one_in (omega arith) in
    let end_other = ap (end_block_of top) at_top in
    let over_other = ap (end_block_of (suc top)) past_top in
    elim (cases_lt (depth_over n other) top) [
      | inl lower ↦ absurd (omega (arith, over_past n other top other_in lower, end, end_other))
      | inr high ↦ elim (cases_lt top (depth_over n other)) [
        | inl higher ↦ absurd (omega (arith, over_within n other (suc top) other_in (omega (arith, higher)), over, over_other))
        | inr equal ↦ omega (arith, high, equal)
      ]
    ]

-- ---- the first stored node

-- at each level from one on, below the root, the path's node is stored exactly where a block under the joined pair's parent is held
pub beside_stored : (base to low : ℕ) (held : ℕ → Bool) (index from level : ℕ) → index < to → IsBeside base low index from → from ≤ level → level < depth_over to index
    → in_closure to held level (index / 2 ^ level) ≡ any_under held (suc level) (last_over base (suc level))
beside_stored base to low held index from level within beside up below =
    path_stored to held index level within below
    ∙ ap (any_under held (suc level)) (sym (same_higher_le (base - 1) index (suc from) (suc level) (omega (arith, up)) beside.same))

module _ (base to low top first : ℕ) (held : ℕ → Bool) (index from : ℕ) (within : index < to) (is_first : IsFirstHeld base held low top first)
    (beside : from < depth_over to index → IsBeside base low index from × (depth_over to index ≡ top))
    (none : (level : ℕ) → level < from → level < depth_over to index → in_closure to held level (index / 2 ^ level) ≡ false) where
  below_first : (level : ℕ) → level < max from first → level < depth_over to index → in_closure to held level (index / 2 ^ level) ≡ false
  below_first level less below = elim (cases_lt level from) [
    | inl before ↦ none level before below
    | inr after ↦
        let at = beside (omega (arith, after, below)) in
        beside_stored base to low held index from level within at.0 after below ∙ is_first.none level (omega (arith, after, at.0.low_is)) (omega (arith, after, less))
  ]

  -- a level below the root
  pub met_level : (level : ℕ) → level ≡ max from first → level < depth_over to index → IsFirstStored to held index level
  met_level level is below =
      let at = beside (omega (arith, is, below)) in
      let first_any = is_first.some (omega (arith, is, below, at.1)) in
      let any = any_higher_le held (base - 1) (suc first) (suc level) (omega (arith, is)) first_any in
      record {
        within = omega (arith, below);
        stored = beside_stored base to low held index from level within at.0 (omega (arith, is)) below ∙ any;
        first = λ k less. below_first k (omega (arith, less, is)) (omega (arith, less, below));
      }

  -- or the root
  pub met_top : depth_over to index ≤ max from first → IsFirstStored to held index (depth_over to index)
  met_top past = first_is_root to held index (depth_over to index) (depth_over to index) within refl (omega arith)
      (λ level less. below_first level (omega (arith, less, past)) less)

-- ---- its value

pub get_both : {X : Type 0} (f : Node → X) (g : Subtree → X) (nodes : List Node) (trees : List Subtree) (place : ℕ) (node : Node) (tree : Subtree)
    → map f nodes ≡ map g trees → slice_get nodes place ≡ Some node → slice_get trees place ≡ Some tree → f node ≡ g tree
get_both f g [] trees place node tree same at_node at_tree = cc
get_both f g (n ∷ nodes) [] place node tree same at_node at_tree = cc
get_both f g (n ∷ nodes) (t ∷ trees) zero node tree same at_node at_tree =
    let one : n ≡ node = cc in
    let other : t ≡ tree = cc in
    let heads : f n ≡ g t = cc in
    ap f (sym one) ∙ heads ∙ ap g other
get_both f g (n ∷ nodes) (t ∷ trees) (suc place) node tree same at_node at_tree =
    let tails : map f nodes ≡ map g trees = cc in
    get_both f g nodes trees place node tree tails at_node at_tree

-- a root's
pub root_value : (to place d o : ℕ) (value : Values) (roots : List Node) (node : Node) → AreNodes value (full_roots_of to) roots → slice_get roots place ≡ Some node
    → slice_get (full_roots_of to) place ≡ Some (subtree d o) → value d o ≡ Some (twig_of node)
root_value to place d o value roots node are there at =
    node_in-value value (subtree d o) node (sym (get_both Some (node_in value) roots (full_roots_of to) place node (subtree d o) are there at))

-- a half's
pub half_value : (base index level : ℕ) (value : Values) (low : ℕ) (lefts rights : List Node) → AreHalves base value low lefts rights level
    → last_over base (suc level) ≡ index / 2 ^ suc level → (node : Node)
    → (index / 2 ^ level % 2 ≡ 1 → slice_get rights (level - low) ≡ Some node)
    → (index / 2 ^ level % 2 ≡ 0 → slice_get lefts (level - low) ≡ Some node) → value level (index / 2 ^ level) ≡ Some (twig_of node)
half_value base index level value low lefts rights halves same node right left =
    let up = over-suc index level in
    elim (cases_eq (index / 2 ^ level % 2) 1) [
      | inl odd ↦
          let own : index / 2 ^ level ≡ 2 * last_over base (suc level) + 1 = omega (arith, up, same, odd) in
          ap (value level) own ∙ node_in-value value (subtree level (2 * last_over base (suc level) + 1)) node (sym halves.at_right ∙ right odd)
      | inr even ↦
          let own : index / 2 ^ level ≡ 2 * last_over base (suc level) = omega (arith, up, same, even) in
          ap (value level) own ∙ node_in-value value (subtree level (2 * last_over base (suc level))) node (sym halves.at_left ∙ left (omega (arith, even)))
    ]

-- where a path goes beside the old end, both have one root
pub beside_both : (base to low index from : ℕ) → index < to → base ≤ to → IsFrom base to low index from
    → from < depth_over to index → IsBeside base low index from × (depth_over to index ≡ depth_over to (base - 1))
beside_both base to low index from within longer is_from below =
    let beside = is_from below in
    (beside, same_root to index (base - 1) (suc from) within (omega (arith, longer, within)) (omega (arith, below)) (sym beside.same))

-- ---- from which level on

-- a full root is the one over each of its blocks
pub root_depth : (n index d : ℕ) → index < n → IsFullRoot n d (index / 2 ^ d) → depth_over n index ≡ d
root_depth n index d within root =
    let same : end_block_of (suc d) (index / 2 ^ d / 2) ≡ end_block_of (suc d) (index / 2 ^ suc d) = ap (end_block_of (suc d)) (over-suc index d) in
    elim (cases_lt (depth_over n index) d) [
      | inl lower ↦ absurd (omega (arith, over_past n index d within lower, root.within))
      | inr high ↦ elim (cases_lt d (depth_over n index)) [
        | inl higher ↦ absurd (omega (arith, over_within n index (suc d) within (omega (arith, higher)), same, root.largest))
        | inr equal ↦ omega (arith, high, equal)
      ]
    ]

first_mono : (d o p : ℕ) → o ≤ p → first_block_of d o ≤ first_block_of d p
unfolding first_block_of
first_mono d o p less = omega (arith, mul-le o (2 ^ d) p (2 ^ d) less (omega arith))

-- the last root is the least
last_least : (base index : ℕ) → index < base → depth_over base (base - 1) ≤ depth_over base index
last_least base index within = elim (cases_lt (depth_over base index) (depth_over base (base - 1))) [
  | inr fits ↦ fits
  | inl lower ↦
      let low = depth_over base (base - 1) in
      let e = depth_over base index in
      let past = over_past base index (suc e) within (omega arith) in
      let inside = nested_le index (suc e) low (omega (arith, lower)) in
      let end = over_within base (base - 1) low (omega (arith, within)) (omega arith) in
      let order : index / 2 ^ low ≤ (base - 1) / 2 ^ low = shr_mono low (omega (arith, within)) in
      let ends = end_mono low (index / 2 ^ low) ((base - 1) / 2 ^ low) order in
      absurd (omega (arith, past, inside.last, end, ends))
]
  where
    end_mono : (d o p : ℕ) → o ≤ p → end_block_of d o ≤ end_block_of d p
    end_mono d o p less = omega (arith, next_first d o, next_first d p, first_mono d (o + 1) (p + 1) (omega (arith, less)))

-- a block below the end: from its root on
pub from_root : (base to index : ℕ) → index < base → base ≤ to → IsFrom base to (depth_over base (base - 1)) index (depth_over base index)
from_root base to index within longer below =
    let e = depth_over base index in
    let past = over_past base index (suc e) within (omega arith) in
    let inside = inside_of (suc e) index in
    record {
      low_is = last_least base index within;
      same = inside_only (suc e) (index / 2 ^ suc e) (base - 1) (omega (arith, inside, within)) (omega (arith, past));
    }

pub none_root : (base to : ℕ) (held : ℕ → Bool) (index : ℕ) → index < base → base ≤ to → NoneBelow base held index (depth_over base index)
    → (level : ℕ) → level < depth_over base index → in_closure to held level (index / 2 ^ level) ≡ false
none_root base to held index within longer none level low = path_same base to held index level within longer low ∙ none level low

-- a block behind the end: from where its path and that of the last block meet
module _ (base index d : ℕ) (some : 0 < base) (over : IsOver index (base - 1) d) where
  meets_up : last_over base (suc d) ≡ index / 2 ^ suc d
  meets_up =
      let one = over-suc (base - 1) d in
      let other = over-suc index d in
      omega (arith, one, other, over.one, over.next)

  pub from_behind : (to : ℕ) → base ≤ index → IsFrom base to (depth_over base (base - 1)) index d
  from_behind to behind below = record {
    low_is = elim (cases_lt d (depth_over base (base - 1))) [
      | inr fits ↦ fits
      | inl lower ↦
          let low = depth_over base (base - 1) in
          let same = same_higher_le (base - 1) index (suc d) low (omega (arith, lower)) meets_up in
          let end = over_within base (base - 1) low (omega (arith, some)) (omega arith) in
          let inside = inside_of low index in
          absurd (omega (arith, end, inside, ap (end_block_of low) same, behind))
    ];
    same = meets_up;
  }

  pub none_behind : (to : ℕ) (held : ℕ → Bool) → ((block : ℕ) → held block ≡ true → block < base) → index < to
      → (level : ℕ) → level < d → level < depth_over to index → in_closure to held level (index / 2 ^ level) ≡ false
  none_behind to held below within level low under =
      let inside = nested_le index (suc level) d (omega (arith, low)) in
      let first : first_block_of d (index / 2 ^ d) ≡ end_block_of d ((base - 1) / 2 ^ d) = sym (next_first d ((base - 1) / 2 ^ d) ∙ ap (first_block_of d) over.next) in
      let last = inside_of d (base - 1) in
      path_stored to held index level within under
      ∙ none_past base held (suc level) (index / 2 ^ suc level) below (omega (arith, inside.first, first, last, some))

-- no block is held
pub none_empty : (to : ℕ) (held : ℕ → Bool) (index : ℕ) → ((block : ℕ) → held block ≡ true → block < 0) → index < to
    → (level : ℕ) → level < depth_over to index → in_closure to held level (index / 2 ^ level) ≡ false
none_empty to held index below within level under =
    path_stored to held index level within under ∙ none_past 0 held (suc level) (index / 2 ^ suc level) below (omega arith)

-- ---- what is known of the root over a block

pub known_root : (n : ℕ) (held : ℕ → Bool) (index : ℕ) (found : Option Met) → index < n → FoundBelow n held index (depth_over n index) found
    → (is_some found || held index) ≡ any_under held (depth_over n index) (index / 2 ^ depth_over n index)
known_root n held index (Some met) within found =
    let any = sym (path_stored n held index met.level within found.0) ∙ found.1 in
    sym (any_higher_le held index (suc met.level) (depth_over n index) (omega (arith, found.0)) any)
known_root n held index None within none = elim (cases_Bool (any_under held (depth_over n index) (index / 2 ^ depth_over n index))) [
  | inl any ↦ either (depth_over n index) refl any ∙ sym any
  | inr absent ↦ elim (cases_Bool (held index)) [
    | inl is_held ↦
        let clash : true ≡ false = sym (held-any_under held (depth_over n index) (index / 2 ^ depth_over n index) index is_held (inside_of (depth_over n index) index)) ∙ absent in
        cc
    | inr not_held ↦ not_held ∙ sym absent
  ]
]
  where
    either : (d : ℕ) → d ≡ depth_over n index → any_under held (depth_over n index) (index / 2 ^ depth_over n index) ≡ true → held index ≡ true
    either zero is any =
        let leaf : index / 2 ^ 0 ≡ index = omega arith in
        ap held (sym leaf) ∙ any_leaf held 0 (index / 2 ^ 0) refl ∙ ap (λ (d : ℕ). any_under held d (index / 2 ^ d)) is ∙ any
    either (suc d) is any =
        let stored = path_stored n held index d within (omega (arith, is)) in
        let clash : true ≡ false = sym any ∙ ap (λ (e : ℕ). any_under held e (index / 2 ^ e)) (sym is) ∙ sym stored ∙ none d (omega (arith, is)) in
        cc

-- as the code tells it
pub knows_root : (n : ℕ) (held : ℕ → Bool) (index : ℕ) (found : Option Met) (answer : Bool) → index < n → FoundBelow n held index (depth_over n index) found
    → answer ≡ (is_some found || held index) → (depth offset : ℕ) → IsFullRoot n depth offset → index / 2 ^ depth ≡ offset → answer ≡ any_under held depth offset
knows_root n held index found answer within below is depth offset root at =
    let here : IsFullRoot n depth (index / 2 ^ depth) = subst (IsFullRoot n depth) (sym at) root in
    let row = root_depth n index depth within here in
    is
    ∙ known_root n held index found within below
    ∙ ap (λ (d : ℕ). any_under held d (index / 2 ^ d)) row
    ∙ ap (any_under held depth) at

pub found_stored : (base to : ℕ) (held : ℕ → Bool) (index : ℕ) (met : Met) → index < base → base ≤ to → FoundBelow base held index (depth_over base index) (Some met)
    → IsFirstStored to held index met.level
found_stored base to held index met within longer found = record {
  within = omega (arith, found.0, deeper base to index within longer);
  stored = path_same base to held index met.level within longer found.0 ∙ found.1;
  first = λ level less. path_same base to held index level within longer (omega (arith, found.0, less)) ∙ found.2 level less;
}
