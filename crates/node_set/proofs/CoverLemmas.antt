-- The cover of a range as a walk of the tree: its subtrees are those within the range that apart other one is over, and sums over
-- covers add up.
use Rattle.std.proofs.Common.{◌≡◌, ℕ, zero, suc, true, false, ◌+◌, ◌-◌, ◌*◌, ◌/◌, ◌%◌, ◌^◌, ◌<◌, ◌≤◌, ◌⊎◌, inl, inr, List, [], ◌∷◌, ◌++◌, refl, sym, ap, subst, ◌∙◌, arith, nat_le, min, max}
use Rattle.std.specs.Prelude.{not, if◌then◌else◌}
use Rattle.std.specs.List.{AllByRecursion, Contains}
use Rattle.std.proofs.lemmas.Bool.{cases_lt, cases_eq, cases_Bool, le-leb, leb-true, and_parts, and_from, not-true, not_from_false}
use Rattle.std.proofs.lemmas.Nat.{pow_pos, shr_split, mul-le}
use Rattle.std.proofs.Math.Nat.{pow-succ', mul-mod_left}
use Rattle.std.proofs.Math.Pow.{pow-lt}
use Rattle.std.proofs.lemmas.List.Elements.{Contains-append_left, Contains-append_right}
use Rattle.flat_tree.specs.Subtrees.{Subtree, subtree, first_block_of, end_block_of, Tile}
use Rattle.flat_tree.specs.Covers.{cover_of}
use Rattle.flat_tree.proofs.NumberLemmas.{end_first, first-suc, inside_only}
use Rattle.flat_tree.proofs.RootLemmas.{below_pow}
use Rattle.flat_tree.proofs.CoverLemmas.{IsLargest, cover-some, cover-none}
use Rattle.node_set.specs.Closure.{is_within, is_between, in_cover}
use Rattle.node_set.proofs.ClosureLemmas.{half_cases, half_left, half_right, span_some, spans_meet, inside_up, within_true, true_within}

-- ---- within a range

pub record IsBetween (from to d o : ℕ) : Type 0 where
  pub first : from ≤ first_block_of d o
  pub last : end_block_of d o ≤ to

pub between_true : (from to d o : ℕ) → IsBetween from to d o → is_between from to d o ≡ true
between_true from to d o between =
    and_from (nat_le from (first_block_of d o)) (is_within to d o) (le-leb from (first_block_of d o) between.first) (within_true to d o between.last)

pub true_between : (from to d o : ℕ) → is_between from to d o ≡ true → IsBetween from to d o
true_between from to d o test =
    let parts = and_parts (nat_le from (first_block_of d o)) (is_within to d o) test in
    record { first = leb-true from (first_block_of d o) parts.0; last = true_within to d o parts.1 }

pub not_between : (from to d o : ℕ) → (IsBetween from to d o → ⊥) → is_between from to d o ≡ false
not_between from to d o none = elim (cases_Bool (is_between from to d o)) [
  | inl here ↦ absurd (none (true_between from to d o here))
  | inr apart ↦ apart
]

pub false_between : (from to d o : ℕ) → is_between from to d o ≡ false → IsBetween from to d o → ⊥
false_between from to d o apart between = let clash : true ≡ false = sym (between_true from to d o between) ∙ apart in cc

-- what is before or behind the range is not within it
pub outside : (from to d o : ℕ) → (end_block_of d o ≤ from) ⊎ (to ≤ first_block_of d o) → is_between from to d o ≡ false
outside from to d o (inl before) = not_between from to d o (λ between. omega (arith, before, between.first, span_some d o))
outside from to d o (inr behind) = not_between from to d o (λ between. omega (arith, behind, between.last, span_some d o))

-- a subtree over one that is not within the range isn't either
pub not_between_up : (from to d o : ℕ) → is_between from to d o ≡ false → is_between from to (suc d) (o / 2) ≡ false
not_between_up from to d o apart = not_between from to (suc d) (o / 2) (λ between.
    let up = inside_up d o in
    false_between from to d o apart (record { first = omega (arith, up, between); last = omega (arith, up, between) }))

-- in the cover: within the range, and the one over it is not
pub record IsCover (from to d o : ℕ) : Type 0 where
  pub within : is_between from to d o ≡ true
  pub largest : is_between from to (suc d) (o / 2) ≡ false

pub cover_true : (from to d o : ℕ) → IsCover from to d o → in_cover from to d o ≡ true
cover_true from to d o cover =
    let above = is_between from to (suc d) (o / 2) in
    and_from (is_between from to d o) (not above) cover.within (not_from_false above cover.largest)

pub true_cover : (from to d o : ℕ) → in_cover from to d o ≡ true → IsCover from to d o
true_cover from to d o test =
    let parts = and_parts (is_between from to d o) (not (is_between from to (suc d) (o / 2))) test in
    record { within = parts.0; largest = not-true (is_between from to (suc d) (o / 2)) parts.1 }

-- ---- the walk

-- the largest subtrees within the range that are at or under this one, left to right
unfoldable pub cover_under : ℕ → ℕ → ℕ → ℕ → List Subtree
cover_under from to zero o = if is_between from to zero o then subtree zero o ∷ [] else []
cover_under from to (suc d) o =
    let halves = cover_under from to d (2 * o) ++ cover_under from to d (2 * o + 1) in
    if is_between from to (suc d) o then subtree (suc d) o ∷ [] else halves

pub under_between : (from to d o : ℕ) → is_between from to d o ≡ true → cover_under from to d o ≡ subtree d o ∷ []
unfolding cover_under
under_between from to zero o here = rw here refl
under_between from to (suc d) o here = rw here refl

pub under_leaf : (from to o : ℕ) → is_between from to zero o ≡ false → cover_under from to zero o ≡ []
unfolding cover_under
under_leaf from to o apart = rw apart refl

pub under_halves : (from to d o : ℕ) → is_between from to (suc d) o ≡ false
    → cover_under from to (suc d) o ≡ cover_under from to d (2 * o) ++ cover_under from to d (2 * o + 1)
unfolding cover_under
under_halves from to d o apart = rw apart refl

pub under_outside : (from to d o : ℕ) → (end_block_of d o ≤ from) ⊎ (to ≤ first_block_of d o) → cover_under from to d o ≡ []
under_outside from to zero o out = under_leaf from to o (outside from to zero o out)
under_outside from to (suc d) o out =
    let meet = spans_meet d o in
    let left : (end_block_of d (2 * o) ≤ from) ⊎ (to ≤ first_block_of d (2 * o)) = elim out [
      | inl before ↦ inl (omega (arith, before, meet))
      | inr behind ↦ inr (omega (arith, behind, meet))
    ] in
    let right : (end_block_of d (2 * o + 1) ≤ from) ⊎ (to ≤ first_block_of d (2 * o + 1)) = elim out [
      | inl before ↦ inl (omega (arith, before, meet))
      | inr behind ↦ inr (omega (arith, behind, meet))
    ] in
    under_halves from to d o (outside from to (suc d) o out) ∙ rw (under_outside from to d (2 * o) left, under_outside from to d (2 * o + 1) right) refl

-- ---- it tiles the range

pub tile-append : (xs ys : List Subtree) (a b c : ℕ) → Tile xs a b → Tile ys b c → Tile (xs ++ ys) a c
tile-append [] ys a b c front back = subst (λ (n : ℕ). Tile ys n c) (sym front) back
tile-append (x ∷ xs) ys a b c front back = (front.0, tile-append xs ys _ b c front.1 back)

-- a block's place in the range, or the end that is nearer
abbrev clamp : ℕ → ℕ → ℕ → ℕ
clamp from to index = min to (max from index)

tile_under : (from to d o : ℕ) → from ≤ to → Tile (cover_under from to d o) (clamp from to (first_block_of d o)) (clamp from to (end_block_of d o))
tile_under from to zero o ordered = elim (cases_Bool (is_between from to zero o)) [
  | inl here ↦
      let between = true_between from to zero o here in
      rw (under_between from to zero o here) (omega (arith, between, span_some zero o), omega (arith, between, span_some zero o))
  | inr apart ↦ rw (under_leaf from to o apart) (no_leaf from to o ordered apart)
]
  where
    no_leaf : (from to o : ℕ) → from ≤ to → is_between from to zero o ≡ false → clamp from to (first_block_of zero o) ≡ clamp from to (end_block_of zero o)
    no_leaf from to o ordered apart = elim (cases_lt (first_block_of zero o) from) [
      | inl before ↦ omega (arith, before, end_first zero o, ordered)
      | inr after ↦ elim (cases_lt to (end_block_of zero o)) [
        | inl behind ↦ omega (arith, after, behind, end_first zero o, ordered)
        | inr within ↦ absurd (false_between from to zero o apart (record { first = after; last = within }))
      ]
    ]
tile_under from to (suc d) o ordered = elim (cases_Bool (is_between from to (suc d) o)) [
  | inl here ↦
      let between = true_between from to (suc d) o here in
      rw (under_between from to (suc d) o here) (omega (arith, between, span_some (suc d) o), omega (arith, between, span_some (suc d) o))
  | inr apart ↦
      let meet = spans_meet d o in
      let c = clamp from to in
      let left : Tile (cover_under from to d (2 * o)) (c (first_block_of (suc d) o)) (c (first_block_of d (2 * o + 1))) =
      subst (λ (n : ℕ). Tile (cover_under from to d (2 * o)) (c n) (c (first_block_of d (2 * o + 1)))) (sym meet.first)
      (subst (λ (n : ℕ). Tile (cover_under from to d (2 * o)) (c (first_block_of d (2 * o))) (c n)) meet.middle (tile_under from to d (2 * o) ordered)) in
      let right : Tile (cover_under from to d (2 * o + 1)) (c (first_block_of d (2 * o + 1))) (c (end_block_of (suc d) o)) =
      subst (λ (n : ℕ). Tile (cover_under from to d (2 * o + 1)) (c (first_block_of d (2 * o + 1))) (c n)) (sym meet.last)
      (tile_under from to d (2 * o + 1) ordered) in
      rw (under_halves from to d o apart) (tile-append (cover_under from to d (2 * o)) (cover_under from to d (2 * o + 1)) _ _ _ left right)
]

-- ---- each is in the cover

abbrev pub AllCover : ℕ → ℕ → List Subtree → Type 0
AllCover from to = AllByRecursion (λ (tree : Subtree). IsCover from to tree.depth tree.offset)

pub all-append : {X : Type 0} (P : X → Type 0) (xs ys : List X) → AllByRecursion P xs → AllByRecursion P ys → AllByRecursion P (xs ++ ys)
all-append P [] ys front back = back
all-append P (x ∷ xs) ys front back = (front.0, all-append P xs ys front.1 back)

pub all_at : {X : Type 0} (P : X → Type 0) (xs : List X) (x : X) → AllByRecursion P xs → Contains xs x → P x
all_at P [] x all (k, less, is) = absurd (omega (arith, less))
all_at P (y ∷ xs) x all (zero, less, is) = subst P is all.0
all_at P (y ∷ xs) x all (suc k, less, is) = all_at P xs x all.1 (k, omega (arith, less), is)

all_cover : (from to d o : ℕ) → is_between from to (suc d) (o / 2) ≡ false → AllCover from to (cover_under from to d o)
all_cover from to zero o above = elim (cases_Bool (is_between from to zero o)) [
  | inl here ↦ rw (under_between from to zero o here) (record { within = here; largest = above }, tt)
  | inr apart ↦ rw (under_leaf from to o apart) tt
]
all_cover from to (suc d) o above = elim (cases_Bool (is_between from to (suc d) o)) [
  | inl here ↦ rw (under_between from to (suc d) o here) (record { within = here; largest = above }, tt)
  | inr apart ↦
      let not_left : is_between from to (suc d) (2 * o / 2) ≡ false = rw (half_left o) apart in
      let not_right : is_between from to (suc d) ((2 * o + 1) / 2) ≡ false = rw (half_right o) apart in
      rw (under_halves from to d o apart)
      (all-append _ (cover_under from to d (2 * o)) (cover_under from to d (2 * o + 1)) (all_cover from to d (2 * o) not_left)
      (all_cover from to d (2 * o + 1) not_right))
]

-- ---- what tiles the range so is its cover

first_at : (e n : ℕ) → n % 2 ^ e ≡ 0 → first_block_of e (n / 2 ^ e) ≡ n
unfolding first_block_of
first_at e n begins = omega (arith, shr_split n e, begins)

-- the subtree over one begins where it does, if a larger one can
up_first : (d o at : ℕ) → first_block_of d o ≡ at → at % 2 ^ suc d ≡ 0 → first_block_of (suc d) (o / 2) ≡ at
up_first d o at begins even = elim (half_cases o) [
  | inl left ↦ first-suc d (o / 2) ∙ ap (λ (k : ℕ). first_block_of d k) (sym left) ∙ begins
  | inr right ↦
      let up = spans_meet d (o / 2) in
      let start : at ≡ first_block_of d (2 * (o / 2) + 1) = sym begins ∙ ap (λ (k : ℕ). first_block_of d k) right in
      let place : at / 2 ^ suc d ≡ o / 2 = inside_only (suc d) (o / 2) at (omega (arith, start, up)) (omega (arith, start, up)) in
      let whole : first_block_of (suc d) (at / 2 ^ suc d) ≡ at = first_at (suc d) at even in
      let same : first_block_of (suc d) (o / 2) ≡ at = ap (λ (k : ℕ). first_block_of (suc d) k) (sym place) ∙ whole in
      absurd (omega (arith, same, start, up))
]

begins_first : (d o at : ℕ) → first_block_of d o ≡ at → at % 2 ^ d ≡ 0
unfolding first_block_of
begins_first d o at is = ap (λ (n : ℕ). n % 2 ^ d) (sym is) ∙ mul-mod_left o (2 ^ d)

largest_cover : (lower at to d o : ℕ) → lower ≤ at → first_block_of d o ≡ at → IsCover lower to d o → IsLargest d at to
largest_cover lower at to d o ordered begins cover =
    let between = true_between lower to d o cover.within in
    let next : at % 2 ^ suc d ≡ 0 → to < at + 2 ^ suc d = λ even. elim (cases_lt to (at + 2 ^ suc d)) [
      | inl less ↦ less
      | inr more ↦
          let first = up_first d o at begins even in
          let up : IsBetween lower to (suc d) (o / 2) =
          record { first = omega (arith, first, ordered); last = omega (arith, first, more, end_first (suc d) (o / 2)) } in
          absurd (false_between lower to (suc d) (o / 2) cover.largest up)
    ] in
    record { begins = begins_first d o at begins; ends = omega (arith, between, begins, end_first d o); next = next }

only_cover : (lower to : ℕ) (trees : List Subtree) (at : ℕ) → lower ≤ at → Tile trees at to → AllCover lower to trees → trees ≡ cover_of at to
only_cover lower to [] at ordered tile all = sym (cover-none at to (omega (arith, tile)))
only_cover lower to (tree ∷ trees) at ordered tile all =
    let largest = largest_cover lower at to tree.depth tree.offset ordered tile.0 all.0 in
    let end : end_block_of tree.depth tree.offset ≡ at + 2 ^ tree.depth = omega (arith, end_first tree.depth tree.offset, tile.0) in
    let rest = only_cover lower to trees (at + 2 ^ tree.depth) (omega (arith, ordered)) (subst (λ (n : ℕ). Tile trees n to) end tile.1) all.1 in
    let place : at / 2 ^ tree.depth ≡ tree.offset =
    inside_only tree.depth tree.offset at (omega (arith, tile.0)) (omega (arith, tile.0, span_some tree.depth tree.offset)) in
    ap (λ (o : ℕ). subtree tree.depth o ∷ trees) (sym place)
    ∙ ap (λ (ts : List Subtree). subtree tree.depth (at / 2 ^ tree.depth) ∷ ts) rest
    ∙ sym (cover-some tree.depth at to largest)

-- the walk from a subtree that begins the log and has the range is the cover
first_zero : (d : ℕ) → (first_block_of d 0 ≡ 0) × (end_block_of d 0 ≡ 2 ^ d)
unfolding first_block_of end_block_of
first_zero d = (omega arith, omega arith)

pub cover_under-is : (d from to : ℕ) → from ≤ to → to ≤ 2 ^ d → cover_under from to d 0 ≡ cover_of from to
cover_under-is d from to ordered within =
    let above : is_between from to (suc d) (0 / 2) ≡ false = not_between from to (suc d) 0 (λ between.
    omega (arith, between.last, (first_zero (suc d)).1, pow-succ' 2 d, pow_pos d, within)) in
    let tile = tile_under from to d 0 ordered in
    let first : clamp from to (first_block_of d 0) ≡ from = omega (arith, ordered, (first_zero d).0) in
    let last : clamp from to (end_block_of d 0) ≡ to = omega (arith, ordered, within, (first_zero d).1) in
    let whole = subst (λ (n : ℕ). Tile (cover_under from to d 0) n to) first
    (subst (λ (n : ℕ). Tile (cover_under from to d 0) (clamp from to (first_block_of d 0)) n) last tile) in
    only_cover from to (cover_under from to d 0) from (omega arith) whole (all_cover from to d 0 above)

-- ---- the law

-- going up from a subtree of the cover, the walk has it
found_up : (from to k e d p : ℕ) (tree : Subtree) → d ≡ k + e → is_between from to (suc e) (p / 2) ≡ false → Contains (cover_under from to e p) tree
    → (q : ℕ) × ((first_block_of d q ≤ first_block_of e p) × Contains (cover_under from to d q) tree)
found_up from to zero e d p tree deep above there =
    let same : e ≡ d = omega (arith, deep) in
    (p, (subst (λ (n : ℕ). first_block_of n p ≤ first_block_of e p) same (omega arith), subst (λ (n : ℕ). Contains (cover_under from to n p) tree) same there))
found_up from to (suc k) e d p tree deep above there =
    let halves = under_halves from to e (p / 2) above in
    let up : Contains (cover_under from to (suc e) (p / 2)) tree = elim (half_cases p) [
      | inl left ↦
          rw halves (Contains-append_left (cover_under from to e (2 * (p / 2))) (cover_under from to e (2 * (p / 2) + 1)) tree
          (subst (λ (n : ℕ). Contains (cover_under from to e n) tree) left there))
      | inr right ↦
          rw halves (Contains-append_right (cover_under from to e (2 * (p / 2))) (cover_under from to e (2 * (p / 2) + 1)) tree
          (subst (λ (n : ℕ). Contains (cover_under from to e n) tree) right there))
    ] in
    let further = found_up from to k (suc e) d (p / 2) tree (omega (arith, deep)) (not_between_up from to (suc e) (p / 2) above) up in
    (further.0, (omega (arith, further.1.0, inside_up e p), further.1.1))

first_none : (d q to : ℕ) → first_block_of d q < to → to ≤ 2 ^ d → q ≡ 0
unfolding first_block_of
first_none d q to before within = elim (cases_eq q 0) [
  | inl none ↦ none
  | inr some ↦ let big : 1 * 2 ^ d ≤ q * 2 ^ d = mul-le 1 (2 ^ d) q (2 ^ d) (omega arith) (omega arith) in absurd (omega (arith, big, before, within))
]

pub cover_has : (from to d o : ℕ) → from ≤ to → IsCover from to d o → Contains (cover_of from to) (subtree d o)
cover_has from to d o ordered cover =
    let between = true_between from to d o cover.within in
    let shallow : d ≤ to = elim (cases_lt to d) [
      | inl deeper ↦ absurd (omega (arith, pow-lt deeper, below_pow to, end_first d o, between))
      | inr fits ↦ fits
    ] in
    let within : to ≤ 2 ^ to = omega (arith, below_pow to) in
    let here : Contains (cover_under from to d o) (subtree d o) = rw (under_between from to d o cover.within) (0, omega arith, refl) in
    let found = found_up from to (to - d) d to o (subtree d o) (omega (arith, shallow)) cover.largest here in
    let begins : found.0 ≡ 0 = first_none to found.0 to (omega (arith, found.1.0, between, span_some d o)) within in
    subst (λ (trees : List Subtree). Contains trees (subtree d o)) (cover_under-is to from to ordered within)
    (subst (λ (q : ℕ). Contains (cover_under from to to q) (subtree d o)) begins found.1.1)

pub all_cover_of : (from to : ℕ) → from ≤ to → AllCover from to (cover_of from to)
all_cover_of from to ordered =
    let within : to ≤ 2 ^ to = omega (arith, below_pow to) in
    let above : is_between from to (suc to) (0 / 2) ≡ false = not_between from to (suc to) 0 (λ between.
    omega (arith, between.last, (first_zero (suc to)).1, pow-succ' 2 to, pow_pos to, within)) in
    subst (λ (trees : List Subtree). AllCover from to trees) (cover_under-is to from to ordered within) (all_cover from to to 0 above)

-- the subtrees of a cover are those within the range that no other one within it is over
pub in_cover_of : (from to d o : ℕ) → from ≤ to → Contains (cover_of from to) (subtree d o) → IsCover from to d o
in_cover_of from to d o ordered there =
    all_at (λ (tree : Subtree). IsCover from to tree.depth tree.offset) (cover_of from to) (subtree d o) (all_cover_of from to ordered) there

pub cover_test : (from to d o : ℕ) → from ≤ to
    → (Contains (cover_of from to) (subtree d o) → in_cover from to d o ≡ true) × (in_cover from to d o ≡ true → Contains (cover_of from to) (subtree d o))
cover_test from to d o ordered =
    (λ there. cover_true from to d o (in_cover_of from to d o ordered there), λ test. cover_has from to d o ordered (true_cover from to d o test))
