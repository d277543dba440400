-- The full roots of n blocks: they tile 0..n, fall in depth, and are the only list that does both.
use Rattle.std.proofs.Common.{◌≡◌, ℕ, zero, suc, append_assoc, append-nil, length-append, ◌+◌, ◌-◌, ◌*◌, ◌/◌, ◌%◌, ◌^◌, ◌<◌, ◌≤◌, ◌⊎◌, inl, inr, List, [], ◌∷◌, ◌++◌, length, slice_get, Some, refl, sym, ◌∙◌, ap, subst, arith, add-one}
use Rattle.std.proofs.lemmas.Bool.{cases_lt, cases_eq, eq-eqb}
use Rattle.std.proofs.Math.Nat.{pow-succ', mul-div_cancel, mod-le, mod_self, mod-eq_of_lt}
use Rattle.std.proofs.lemmas.List.{length-map}
use Rattle.std.proofs.Math.Pow.{pow_mono}
use Rattle.std.proofs.lemmas.Nat.{pow_pos, shr-shr, shr_split, mod_below, div_below}
use Rattle.flat_tree.specs.Subtrees.{Subtree, subtree, number, first_block_of, end_block_of, numbers_of, Tile}
use Rattle.flat_tree.specs.Roots.{roots_below, full_roots_of, Fall, FallBelow}
use Rattle.flat_tree.proofs.NumberLemmas.{number_first, end_first, number_below}

-- the blocks before those of the lower digits
abbrev pub start_of : ℕ → ℕ → ℕ
start_of depth blocks = blocks / 2 ^ depth * 2 ^ depth

-- a digit is one or zero
pub digit : (d n : ℕ) → (n / 2 ^ d % 2 ≡ 1) ⊎ (n / 2 ^ d % 2 ≡ 0)
digit d n = elim (cases_eq (n / 2 ^ d % 2) 1) [ inl one ↦ inl one | inr other ↦ inr (omega arith) ]

pub start-one : (d n : ℕ) → n / 2 ^ d % 2 ≡ 1 → start_of d n ≡ start_of (suc d) n + 2 ^ d
start-one d n one =
    let up : n / 2 ^ suc d ≡ n / 2 ^ d / 2 = ap (λ (k : ℕ). n / 2 ^ k) (sym (add-one d)) ∙ sym (shr-shr n d 1) in
    let count : n / 2 ^ d ≡ 2 * (n / 2 ^ d / 2) + 1 = omega arith in
    let times : n / 2 ^ d * 2 ^ d ≡ (2 * (n / 2 ^ d / 2) + 1) * 2 ^ d = ap (λ (k : ℕ). k * 2 ^ d) count in
    rw (up, pow-succ' 2 d) (omega (arith, times))

pub start-zero : (d n : ℕ) → n / 2 ^ d % 2 ≡ 0 → start_of d n ≡ start_of (suc d) n
start-zero d n none =
    let up : n / 2 ^ suc d ≡ n / 2 ^ d / 2 = ap (λ (k : ℕ). n / 2 ^ k) (sym (add-one d)) ∙ sym (shr-shr n d 1) in
    let count : n / 2 ^ d ≡ 2 * (n / 2 ^ d / 2) = omega arith in
    let times : n / 2 ^ d * 2 ^ d ≡ 2 * (n / 2 ^ d / 2) * 2 ^ d = ap (λ (k : ℕ). k * 2 ^ d) count in
    rw (up, pow-succ' 2 d) (omega (arith, times))

-- one digit more
pub roots-one : (d n : ℕ) → n / 2 ^ d % 2 ≡ 1 → roots_below (suc d) n ≡ subtree d (n / 2 ^ d - 1) ∷ roots_below d n
unfolding roots_below
roots-one d n one = rw (eq-eqb (n / 2 ^ d % 2) 1 one) refl

pub roots-zero : (d n : ℕ) → n / 2 ^ d % 2 ≡ 0 → roots_below (suc d) n ≡ roots_below d n
unfolding roots_below
roots-zero d n none = rw none refl

-- the root of a digit begins where the higher ones end
root_start : (d n : ℕ) → n / 2 ^ d % 2 ≡ 1 → first_block_of d (n / 2 ^ d - 1) ≡ start_of (suc d) n
unfolding first_block_of
root_start d n one =
    let one_less : n / 2 ^ d ≡ n / 2 ^ d - 1 + 1 = omega arith in
    let times : n / 2 ^ d * 2 ^ d ≡ (n / 2 ^ d - 1 + 1) * 2 ^ d = ap (λ (k : ℕ). k * 2 ^ d) one_less in
    omega (arith, times, start-one d n one)

pub root_end : (d n : ℕ) → n / 2 ^ d % 2 ≡ 1 → end_block_of d (n / 2 ^ d - 1) ≡ start_of d n
root_end d n one = omega (arith, end_first d (n / 2 ^ d - 1), root_start d n one, start-one d n one)

pub tile-roots : (d n : ℕ) → Tile (roots_below d n) (start_of d n) n
unfolding roots_below
tile-roots zero n = omega arith
tile-roots (suc d) n = elim (digit d n) [
  | inl one ↦ rw (roots-one d n one) (root_start d n one, rw (root_end d n one) (tile-roots d n))
  | inr none ↦ rw (roots-zero d n none, ← start-zero d n none) (tile-roots d n)
]

-- a higher bound
fall_more : (trees : List Subtree) (low high : ℕ) → low ≤ high → FallBelow low trees → FallBelow high trees
fall_more [] low high more falls = tt
fall_more (tree ∷ trees) low high more falls = (omega (arith, falls.0), falls.1)

pub fall-roots : (d n : ℕ) → FallBelow d (roots_below d n)
unfolding roots_below
fall-roots zero n = tt
fall-roots (suc d) n = elim (digit d n) [
  | inl one ↦ rw (roots-one d n one) (omega arith, fall-roots d n)
  | inr none ↦ rw (roots-zero d n none) (fall_more (roots_below d n) d (suc d) (omega arith) (fall-roots d n))
]

-- a tiling goes up
pub tile-le : (trees : List Subtree) (from to : ℕ) → Tile trees from to → from ≤ to
tile-le [] from to tile = omega (arith, tile)
tile-le (tree ∷ trees) from to tile = omega (arith, tile.0, end_first tree.depth tree.offset, tile-le trees _ to tile.1)

-- falling subtrees have fewer blocks than the next larger subtree
tile-fall : (trees : List Subtree) (bound from to : ℕ) → FallBelow bound trees → Tile trees from to → to < from + 2 ^ bound
tile-fall [] bound from to falls tile = omega (arith, tile, pow_pos bound)
tile-fall (tree ∷ trees) bound from to falls tile =
    let up : suc tree.depth ≤ bound = omega (arith, falls.0) in
    omega (arith, tile.0, end_first tree.depth tree.offset, tile-fall trees tree.depth _ to falls.1 tile.1, pow_mono up, pow-succ' 2 tree.depth)

-- subtrees of one depth that begin at one block are one
pub same_offset : (d o p : ℕ) → first_block_of d o ≡ first_block_of d p → o ≡ p
unfolding first_block_of
same_offset d o p same =
    sym (mul-div_cancel o (pow_pos d)) ∙ ap (λ (n : ℕ). n / 2 ^ d) same ∙ mul-div_cancel p (pow_pos d)

-- what tiles the blocks of the lower digits and falls is their roots
only-roots : (d n : ℕ) (trees : List Subtree) → Tile trees (start_of d n) n → FallBelow d trees → trees ≡ roots_below d n
unfolding roots_below
only-roots zero n [] tile falls = refl
only-roots zero n (tree ∷ trees) tile falls = absurd (omega (arith, falls.0))
only-roots (suc d) n [] tile falls = elim (digit d n) [
  | inl one ↦ absurd (omega (arith, tile, start-one d n one, shr_split n d, pow_pos d))
  | inr none ↦ only-roots d n [] (start-zero d n none ∙ tile) tt ∙ sym (roots-zero d n none)
]
only-roots (suc d) n (tree ∷ trees) tile falls = elim (digit d n) [
  | inl one ↦ elim (cases_eq tree.depth d) [
    | inl same ↦
        let begins = ap (λ (k : ℕ). first_block_of k tree.offset) (sym same) ∙ tile.0 in
        let place : tree.offset ≡ n / 2 ^ d - 1 = same_offset d tree.offset (n / 2 ^ d - 1) (begins ∙ sym (root_start d n one)) in
        let is : tree ≡ subtree d (n / 2 ^ d - 1) = ap (λ (k : ℕ). subtree k tree.offset) same ∙ ap (λ (o : ℕ). subtree d o) place in
        let ends = ap (λ (t : Subtree). end_block_of t.depth t.offset) is ∙ root_end d n one in
        let rest = only-roots d n trees (subst (λ (b : ℕ). Tile trees b n) ends tile.1) (subst (λ (b : ℕ). FallBelow b trees) same falls.1) in
        ap (λ (t : Subtree). t ∷ trees) is ∙ ap (λ (ts : List Subtree). subtree d (n / 2 ^ d - 1) ∷ ts) rest ∙ sym (roots-one d n one)
    | inr lower ↦
        let deep : tree.depth < d = omega (arith, falls.0, lower) in
        let short = tile-fall (tree ∷ trees) d _ n (deep, falls.1) tile in
        absurd (omega (arith, short, start-one d n one, shr_split n d))
  ]
  | inr none ↦ elim (cases_eq tree.depth d) [
    | inl same ↦
        let size : 2 ^ tree.depth ≡ 2 ^ d = ap (λ (k : ℕ). 2 ^ k) same in
        let rest = mod_below n (2 ^ d) (pow_pos d) in
        let end = tile-le trees _ n tile.1 in
        absurd (omega (arith, size, tile.0, end_first tree.depth tree.offset, end, start-zero d n none, shr_split n d, rest))
    | inr lower ↦
        let deep : tree.depth < d = omega (arith, falls.0, lower) in
        let begins = tile.0 ∙ sym (start-zero d n none) in
        only-roots d n (tree ∷ trees) (begins, tile.1) (deep, falls.1) ∙ sym (roots-zero d n none)
  ]
]

-- digits that are zero have no roots
pub low_digits : (k d n : ℕ) → d ≤ k → n % 2 ^ k < 2 ^ d → (roots_below k n ≡ roots_below d n) × (n % 2 ^ k ≡ n % 2 ^ d)
low_digits zero d n within small =
    let none : 0 ≡ d = omega arith in
    (ap (λ (b : ℕ). roots_below b n) none, ap (λ (b : ℕ). n % 2 ^ b) none)
low_digits (suc k) d n within small = elim (cases_eq (suc k) d) [
  | inl same ↦ (ap (λ (b : ℕ). roots_below b n) same, ap (λ (b : ℕ). n % 2 ^ b) same)
  | inr more ↦ elim (digit k n) [
    | inl one ↦
        let lower : d ≤ k = omega (arith, within, more) in
        absurd (omega (arith, small, start-one k n one, shr_split n k, shr_split n (suc k), pow_mono lower))
    | inr none ↦
        let lower : d ≤ k = omega (arith, within, more) in
        let rest : n % 2 ^ suc k ≡ n % 2 ^ k = omega (arith, start-zero k n none, shr_split n k, shr_split n (suc k)) in
        let least : n % 2 ^ k < 2 ^ d = omega (arith, rest, small) in
        let further = low_digits k d n lower least in
        (roots-zero k n none ∙ further.0, rest ∙ further.1)
  ]
]

pub below_pow : (n : ℕ) → n < 2 ^ n
below_pow zero = omega arith
below_pow (suc n) = rw (pow-succ' 2 n) (omega (arith, below_pow n))

-- so many digits are enough
pub full-below : (k n : ℕ) → n < 2 ^ k → full_roots_of n ≡ roots_below k n
unfolding full_roots_of
full-below k n small = elim (cases_lt k n) [
  | inl fewer ↦
      let least : n % 2 ^ n < 2 ^ k = omega (arith, small, mod-le n (2 ^ n)) in
      (low_digits n k n (omega (arith, fewer)) least).0
  | inr enough ↦
      let least : n % 2 ^ k < 2 ^ n = omega (arith, below_pow n, mod-le n (2 ^ k)) in
      sym (low_digits k n n enough least).0
]

pub tile-full : (n : ℕ) → Tile (full_roots_of n) 0 n
unfolding full_roots_of
tile-full n =
    let high : n / 2 ^ n < 1 = div_below n (2 ^ n) 1 (pow_pos n) (omega (arith, below_pow n)) in
    let none : n / 2 ^ n ≡ 0 = omega arith in
    let begins : start_of n n ≡ 0 = ap (λ (k : ℕ). k * 2 ^ n) none ∙ omega arith in
    subst (λ (from : ℕ). Tile (roots_below n n) from n) begins (tile-roots n n)

pub fall_any : (bound : ℕ) (trees : List Subtree) → FallBelow bound trees → Fall trees
fall_any bound [] falls = tt
fall_any bound (tree ∷ trees) falls = falls.1

pub fall-full : (n : ℕ) → Fall (full_roots_of n)
unfolding full_roots_of
fall-full n = fall_any n (roots_below n n) (fall-roots n n)

-- a tiling's subtrees have no more blocks than there are
fall_within : (n : ℕ) (trees : List Subtree) → Tile trees 0 n → Fall trees → FallBelow n trees
fall_within n [] tile falls = tt
fall_within n (tree ∷ trees) tile falls = elim (cases_lt tree.depth n) [
  | inl deep ↦ (deep, falls)
  | inr high ↦ absurd (omega (arith, pow_mono high, below_pow n, end_first tree.depth tree.offset, tile-le trees _ n tile.1))
]

pub only-full : (n : ℕ) (trees : List Subtree) → Tile trees 0 n → Fall trees → trees ≡ full_roots_of n
unfolding full_roots_of
only-full n trees tile falls =
    let high : n / 2 ^ n < 1 = div_below n (2 ^ n) 1 (pow_pos n) (omega (arith, below_pow n)) in
    let none : n / 2 ^ n ≡ 0 = omega arith in
    let begins : start_of n n ≡ 0 = ap (λ (k : ℕ). k * 2 ^ n) none ∙ omega arith in
    only-roots n n trees (subst (λ (from : ℕ). Tile trees from n) (sym begins) tile) (fall_within n trees tile falls)

length-roots : (k n : ℕ) → length (roots_below k n) ≤ k
unfolding roots_below
length-roots zero n = omega arith
length-roots (suc k) n = elim (digit k n) [
  | inl one ↦ rw (roots-one k n one) (omega (arith, length-roots k n))
  | inr none ↦ rw (roots-zero k n none) (omega (arith, length-roots k n))
]

-- no more roots than digits
pub length-full : (k n : ℕ) → 0 < k → n ≤ 2 ^ k → length (full_roots_of n) ≤ k
unfolding roots_below
length-full k n some within = elim (cases_eq n (2 ^ k)) [
  | inl same ↦
      let below : n < 2 ^ suc k = omega (arith, same, pow-succ' 2 k, pow_pos k) in
      let rest : n % 2 ^ k ≡ 0 = ap (λ (m : ℕ). m % 2 ^ k) same ∙ mod_self (2 ^ k) in
      let none = (low_digits k 0 n (omega arith) (omega (arith, rest))).0 in
      let one : length (roots_below (suc k) n) ≤ 1 = elim (digit k n) [
        | inl one ↦ rw (roots-one k n one, none) (omega arith)
        | inr zero_there ↦ rw (roots-zero k n zero_there, none) (omega arith)
      ] in
      rw (full-below (suc k) n below) (omega (arith, one, some))
  | inr less ↦
      let below : n < 2 ^ k = omega (arith, within, less) in
      rw (full-below k n below) (length-roots k n)
]

-- so many blocks are left, the roots so far being these
abbrev pub RootsLeft : ℕ → ℕ → List ℕ → Type 0
RootsLeft n left places =
    (k : ℕ) × ((left ≡ n % 2 ^ k) × (places ++ numbers_of (roots_below k n) ≡ numbers_of (full_roots_of n)))

pub roots_left-all : (n : ℕ) (places : List ℕ) → places ≡ [] → RootsLeft n n places
unfolding full_roots_of
roots_left-all n places none =
    (n, (sym (mod-eq_of_lt (below_pow n)), ap (λ (xs : List ℕ). xs ++ numbers_of (roots_below n n)) none))

step : (n left d : ℕ) (places : List ℕ) → RootsLeft n left places → 2 ^ d ≤ left → left < 2 * 2 ^ d
    → RootsLeft n (left - 2 ^ d) (places ++ (2 * (n - left) + 2 ^ d - 1) ∷ [])
step n left d places (k, (is, joined)) low high = elim (cases_lt d k) [
  | inr wide ↦ absurd (omega (arith, is, low, pow_mono wide, mod_below n (2 ^ k) (pow_pos k)))
  | inl within ↦
      let up : suc d ≤ k = omega (arith, within) in
      let small : n % 2 ^ k < 2 ^ suc d = omega (arith, is, high, pow-succ' 2 d) in
      let lower = low_digits k (suc d) n up small in
      let equal : left ≡ n % 2 ^ suc d = is ∙ lower.1 in
      elim (digit d n) [
        | inr none ↦ absurd (omega (arith, equal, low, start-zero d n none, shr_split n d, shr_split n (suc d), mod_below n (2 ^ d) (pow_pos d)))
        | inl one ↦
            let here : 2 * (n - left) + 2 ^ d - 1 ≡ number d (n / 2 ^ d - 1) =
            omega (arith, equal, shr_split n (suc d), root_start d n one, number_first d (n / 2 ^ d - 1)) in
            let rest : left - 2 ^ d ≡ n % 2 ^ d = omega (arith, equal, start-one d n one, shr_split n d, shr_split n (suc d)) in
            let split = lower.0 ∙ roots-one d n one in (
              d,
              (
                rest,
                append_assoc places ((2 * (n - left) + 2 ^ d - 1) ∷ []) (numbers_of (roots_below d n))
                    ∙ ap (λ (x : ℕ). places ++ x ∷ numbers_of (roots_below d n)) here
                    ∙ ap (λ (trees : List Subtree). places ++ numbers_of trees) (sym split)
                    ∙ joined,
              ),
            )
      ]
]

-- the largest root of what is left is the next
pub roots_left-push : (n left d size : ℕ) (places more : List ℕ) → RootsLeft n left places → 2 ^ d ≤ left → left < 2 * 2 ^ d
    → size ≡ 2 ^ d → more ≡ places ++ (2 * (n - left) + size - 1) ∷ [] → RootsLeft n (left - size) more
roots_left-push n left d size places more held low high is pushed =
    subst (λ (xs : List ℕ). RootsLeft n (left - size) xs) (sym pushed)
    (subst (λ (s : ℕ). RootsLeft n (left - s) (places ++ (2 * (n - left) + s - 1) ∷ [])) (sym is) (step n left d places held low high))

tile_some : (trees : List Subtree) (from to : ℕ) → Tile trees from to → from < to → 0 < length trees
tile_some [] from to tile some = absurd (omega (arith, tile, some))
tile_some (tree ∷ trees) from to tile some = omega arith

pub roots_left-room : (n left : ℕ) (places : List ℕ) → RootsLeft n left places → 0 < left → length places < length (full_roots_of n)
roots_left-room n left places (k, (is, joined)) some =
    let more : 0 < length (roots_below k n) = tile_some (roots_below k n) _ n (tile-roots k n) (omega (arith, is, some, shr_split n k)) in
    let all = sym (length-append places (numbers_of (roots_below k n))) ∙ ap length joined in
    let whole : length places + length (numbers_of (roots_below k n)) ≡ length (numbers_of (full_roots_of n)) = all in
    omega (arith, more, simp length-map at whole)

pub roots_left-none : (n left : ℕ) (places : List ℕ) → RootsLeft n left places → left ≡ 0 → places ≡ numbers_of (full_roots_of n)
unfolding roots_below
roots_left-none n left places (k, (is, joined)) none =
    let empty = (low_digits k 0 n (omega arith) (omega (arith, is, none))).0 in
    sym (append-nil places) ∙ ap (λ (trees : List Subtree). places ++ numbers_of trees) (sym empty) ∙ joined

-- a tiling's nodes are less than twice its end
below_in : (trees : List Subtree) (from to : ℕ) → Tile trees from to → (place node : ℕ)
    → slice_get (numbers_of trees) place ≡ Some node → node < 2 * to
below_in [] from to tile place node there = cc
below_in (tree ∷ trees) from to tile zero node there =
    let is : number tree.depth tree.offset ≡ node = cc in
    omega (arith, is, number_below tree.depth tree.offset, tile-le trees _ to tile.1)
below_in (tree ∷ trees) from to tile (suc place) node there = below_in trees _ to tile.1 place node there

pub numbers_below : (places : List ℕ) (trees : List Subtree) (from to : ℕ) → places ≡ numbers_of trees → Tile trees from to
    → (place node : ℕ) → slice_get places place ≡ Some node → node < 2 * to
numbers_below places trees from to is tile place node there =
    below_in trees from to tile place node (sym (ap (λ (xs : List ℕ). slice_get xs place) is) ∙ there)

pub length-numbers : (places : List ℕ) (trees : List Subtree) → places ≡ numbers_of trees → length places ≡ length trees
length-numbers places trees is = ap length is ∙ length-map trees (λ (tree : Subtree). number tree.depth tree.offset)

-- each subtree of a tiling is within it
pub tile-get : (trees : List Subtree) (from to : ℕ) → Tile trees from to → (place : ℕ) (tree : Subtree)
    → slice_get trees place ≡ Some tree
    → (from ≤ first_block_of tree.depth tree.offset) × (end_block_of tree.depth tree.offset ≤ to)
tile-get [] from to tile place tree there = cc
tile-get (head ∷ trees) from to tile zero tree there =
    let is : head ≡ tree = cc in
    subst (λ (t : Subtree). (from ≤ first_block_of t.depth t.offset) × (end_block_of t.depth t.offset ≤ to)) is
    (omega (arith, tile.0), tile-le trees _ to tile.1)
tile-get (head ∷ trees) from to tile (suc place) tree there =
    let rest = tile-get trees _ to tile.1 place tree there in
    (omega (arith, tile.0, end_first head.depth head.offset, rest.0), rest.1)
