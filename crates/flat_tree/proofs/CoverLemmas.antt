-- Covers: at each place the largest subtree that fits; they tile the range, and no other list that does
-- is as short.
use Rattle.std.proofs.Common.{◌≡◌, ℕ, zero, suc, append_assoc, append-nil, length-append, ◌+◌, ◌-◌, ◌*◌, ◌/◌, ◌%◌, ◌^◌, ◌<◌, ◌≤◌, inl, inr, List, [], ◌∷◌, ◌++◌, length, refl, sym, ◌∙◌, ap, subst, arith, true, false, nat_eq, nat_le}
use Rattle.std.specs.Int.{bit_at, trailing_zeros, w64}
use Rattle.std.specs.Int.Count.{trailing_of_zero}
use Rattle.std.proofs.lemmas.Nat.Bits.{bit_at-trailing_zeros}
use Rattle.std.proofs.lemmas.Bool.{cases_lt, cases_eq, lt-ltb, le-ltb, eq-eqb, le-leb, cases_Bool, eqb-true, leb-true, and_parts, and_from}
use Rattle.std.proofs.Math.Nat.{pow-succ', lt_of_mul-lt-mul_right, mul-le-mul_right, add-mod_right, mul-mod_left, zero-mod}
use Rattle.std.proofs.lemmas.List.{length-map}
use Rattle.std.proofs.Math.Pow.{pow_mono, pow-lt}
use Rattle.std.proofs.lemmas.Nat.{pow_pos, shr_split}
use Rattle.flat_tree.specs.Subtrees.{Subtree, subtree, number, numbers_of, first_block_of, end_block_of, Tile}
use Rattle.flat_tree.specs.Roots.{FallBelow, full_roots_of}
use Rattle.flat_tree.specs.Covers.{fits_at, largest_up_to, depth_at, cover_in, cover_of}
use Rattle.flat_tree.proofs.NumberLemmas.{end_first, number_first}
use Rattle.flat_tree.proofs.RootLemmas.{start_of, digit, start-one, start-zero, low_digits, below_pow, tile-le, only-full, same_offset, fall_any}

-- a subtree of depth d begins there, ends in time, and the next larger one doesn't
pub record IsLargest (d from to : ℕ) : Type 0 where
  pub begins : from % 2 ^ d ≡ 0
  pub ends : from + 2 ^ d ≤ to
  pub next : from % 2 ^ suc d ≡ 0 → to < from + 2 ^ suc d

-- what begins a larger subtree begins a smaller one
begins_lower : (n k e : ℕ) → k ≤ e → n % 2 ^ e ≡ 0 → n % 2 ^ k ≡ 0
begins_lower n k e within begins = sym (low_digits e k n within (omega (arith, begins, pow_pos k))).1 ∙ begins

larger : (d from to e : ℕ) → IsLargest d from to → d < e → from % 2 ^ e ≡ 0 → to < from + 2 ^ e
larger d from to e largest above begins =
    let up : suc d ≤ e = omega (arith, above) in
    omega (arith, largest.next (begins_lower from (suc d) e up begins), pow_mono up)

pub same_largest : (d e from to : ℕ) → IsLargest d from to → IsLargest e from to → d ≡ e
same_largest d e from to here there = elim (cases_lt d e) [
  | inl less ↦ absurd (omega (arith, larger d from to e here less there.begins, there.ends))
  | inr more ↦ elim (cases_eq d e) [
    | inl same ↦ same
    | inr other ↦ let above : e < d = omega arith in absurd (omega (arith, larger e from to d there above here.begins, here.ends))
  ]
]

-- the test, and the search from above
fits_true : (d from to : ℕ) → from % 2 ^ d ≡ 0 → from + 2 ^ d ≤ to → fits_at d from to ≡ true
fits_true d from to begins ends =
    let first = eq-eqb (from % 2 ^ d) 0 begins in
    let last = le-leb (from + 2 ^ d) to ends in
    and_from (nat_eq (from % 2 ^ d) 0) (nat_le (from + 2 ^ d) to) first last

true_fits : (d from to : ℕ) → fits_at d from to ≡ true → (from % 2 ^ d ≡ 0) × (from + 2 ^ d ≤ to)
true_fits d from to fits =
    let parts = and_parts (nat_eq (from % 2 ^ d) 0) (nat_le (from + 2 ^ d) to) fits in
    (eqb-true (from % 2 ^ d) 0 parts.0, leb-true (from + 2 ^ d) to parts.1)

largest_fits : (k from to : ℕ) → from < to → (from % 2 ^ largest_up_to k from to ≡ 0) × (from + 2 ^ largest_up_to k from to ≤ to)
unfolding largest_up_to
largest_fits zero from to some = (omega arith, omega (arith, some))
largest_fits (suc k) from to some = elim (cases_Bool (fits_at (suc k) from to)) [
  | inl fits ↦ rw fits (true_fits (suc k) from to fits)
  | inr not_here ↦ rw not_here (largest_fits k from to some)
]

largest_most : (k from to e : ℕ) → e ≤ k → from % 2 ^ e ≡ 0 → from + 2 ^ e ≤ to → e ≤ largest_up_to k from to
unfolding largest_up_to
largest_most zero from to e within begins ends = within
largest_most (suc k) from to e within begins ends = elim (cases_Bool (fits_at (suc k) from to)) [
  | inl fits ↦ rw fits within
  | inr not_here ↦ elim (cases_eq e (suc k)) [
    | inl same ↦
        let there : fits_at (suc k) from to ≡ true = subst (λ (d : ℕ). fits_at d from to ≡ true) same (fits_true e from to begins ends) in
        let clash : true ≡ false = sym there ∙ not_here in
        cc
    | inr less ↦ let lower : e ≤ k = omega arith in rw not_here (largest_most k from to e lower begins ends)
  ]
]

pub largest-is : (from to : ℕ) → from < to → IsLargest (depth_at from to) from to
largest-is from to some =
    let fits = largest_fits (to - from) from to some in
    let next : from % 2 ^ suc (depth_at from to) ≡ 0 → to < from + 2 ^ suc (depth_at from to) = λ begins.
    elim (cases_lt to (from + 2 ^ suc (depth_at from to))) [
      | inl less ↦ less
      | inr ends ↦
          let within : suc (depth_at from to) ≤ to - from = omega (arith, below_pow (suc (depth_at from to)), ends) in
          absurd (omega (arith, largest_most (to - from) from to _ within begins ends))
    ] in
    record { begins = fits.0; ends = fits.1; next = next }

-- one subtree more
cover_in-some : (s d from to : ℕ) → IsLargest d from to → cover_in (suc s) from to ≡ subtree d (from / 2 ^ d) ∷ cover_in s (from + 2 ^ d) to
unfolding cover_in
cover_in-some s d from to largest =
    let some : from < to = omega (arith, largest.ends, pow_pos d) in
    let is : depth_at from to ≡ d = same_largest _ d from to (largest-is from to some) largest in
    rw (lt-ltb from to some, is) refl

cover_in-none : (s from to : ℕ) → to ≤ from → cover_in s from to ≡ []
unfolding cover_in
cover_in-none zero from to none = refl
cover_in-none (suc s) from to none = rw (le-ltb from to none) refl

-- so many steps are enough
cover_in-steps : (s t from to : ℕ) → to - from ≤ s → to - from ≤ t → cover_in s from to ≡ cover_in t from to
cover_in-steps zero t from to enough_s enough_t = cover_in-none 0 from to (omega arith) ∙ sym (cover_in-none t from to (omega arith))
cover_in-steps (suc s) zero from to enough_s enough_t = cover_in-none (suc s) from to (omega arith) ∙ sym (cover_in-none 0 from to (omega arith))
cover_in-steps (suc s) (suc t) from to enough_s enough_t = elim (cases_lt from to) [
  | inr none ↦ cover_in-none (suc s) from to none ∙ sym (cover_in-none (suc t) from to none)
  | inl some ↦
      let largest = largest-is from to some in
      let positive = pow_pos (depth_at from to) in
      let fewer_s : to - (from + 2 ^ depth_at from to) ≤ s = omega (arith, positive, some) in
      let fewer_t : to - (from + 2 ^ depth_at from to) ≤ t = omega (arith, positive, some) in
      cover_in-some s _ from to largest
      ∙ ap (λ (rest : List Subtree). subtree (depth_at from to) (from / 2 ^ depth_at from to) ∷ rest)
      (cover_in-steps s t _ to fewer_s fewer_t)
      ∙ sym (cover_in-some t _ from to largest)
]

pub cover-some : (d from to : ℕ) → IsLargest d from to → cover_of from to ≡ subtree d (from / 2 ^ d) ∷ cover_of (from + 2 ^ d) to
unfolding cover_of
cover-some d from to largest =
    cover_in-steps (to - from) (suc (to - from)) from to (omega arith) (omega arith)
    ∙ cover_in-some (to - from) d from to largest
    ∙ ap (λ (rest : List Subtree). subtree d (from / 2 ^ d) ∷ rest)
    (cover_in-steps (to - from) (to - (from + 2 ^ d)) (from + 2 ^ d) to (omega arith) (omega arith))

pub cover-none : (from to : ℕ) → to ≤ from → cover_of from to ≡ []
unfolding cover_of
cover-none from to none = cover_in-none (to - from) from to none

-- the subtree there has the blocks of its size
largest_first : (d from to : ℕ) → IsLargest d from to → first_block_of d (from / 2 ^ d) ≡ from
unfolding first_block_of
largest_first d from to largest = omega (arith, shr_split from d, largest.begins)

largest_end : (d from to : ℕ) → IsLargest d from to → end_block_of d (from / 2 ^ d) ≡ from + 2 ^ d
largest_end d from to largest = omega (arith, end_first d (from / 2 ^ d), largest_first d from to largest)

tile_in : (s from to : ℕ) → to - from ≤ s → from ≤ to → Tile (cover_of from to) from to
tile_in zero from to enough ordered = rw (cover-none from to (omega arith)) (omega arith)
tile_in (suc s) from to enough ordered = elim (cases_lt from to) [
  | inr none ↦ rw (cover-none from to none) (omega arith)
  | inl some ↦
      let largest = largest-is from to some in
      let fewer : to - (from + 2 ^ depth_at from to) ≤ s = omega (arith, some, pow_pos (depth_at from to)) in
      rw (cover-some _ from to largest) (
        largest_first _ from to largest,
        subst (λ (at : ℕ). Tile (cover_of (from + 2 ^ depth_at from to) to) at to) (sym (largest_end _ from to largest))
            (tile_in s _ to fewer largest.ends),
      )
]

pub tile-cover : (from to : ℕ) → from ≤ to → Tile (cover_of from to) from to
tile-cover from to ordered = tile_in (to - from) from to (omega arith) ordered

-- places that begin subtrees of one depth are a subtree apart
apart : (a b k : ℕ) → a % 2 ^ k ≡ 0 → b % 2 ^ k ≡ 0 → a < b → a + 2 ^ k ≤ b
apart a b k begins_a begins_b less =
    let scaled : a / 2 ^ k * 2 ^ k < b / 2 ^ k * 2 ^ k = omega (arith, shr_split a k, shr_split b k, begins_a, begins_b, less) in
    let counts : a / 2 ^ k + 1 ≤ b / 2 ^ k = omega (arith, lt_of_mul-lt-mul_right (2 ^ k) scaled) in
    let further = mul-le-mul_right (2 ^ k) counts in
    omega (arith, shr_split a k, shr_split b k, begins_a, begins_b, further)

-- the place after a subtree begins every subtree that is no larger
begins_after : (from d k : ℕ) → k ≤ d → from % 2 ^ d ≡ 0 → (from + 2 ^ d) % 2 ^ k ≡ 0
begins_after from d k within begins = begins_lower (from + 2 ^ d) k d within (add-mod_right from (2 ^ d) ∙ begins)

-- a subtree begins at a multiple of its size
begins_first : (d o from : ℕ) → first_block_of d o ≡ from → from % 2 ^ d ≡ 0
unfolding first_block_of
begins_first d o from is = ap (λ (n : ℕ). n % 2 ^ d) (sym is) ∙ mul-mod_left o (2 ^ d)

-- what begins inside a subtree's blocks stays inside: it takes one subtree at least to their end
inside : (from d to least : ℕ) (trees : List Subtree) (at : ℕ) → from % 2 ^ d ≡ 0 → from + 2 ^ d ≤ to
    → ((ts : List Subtree) → Tile ts (from + 2 ^ d) to → least ≤ length ts)
    → Tile trees at to → from < at → at < from + 2 ^ d → least + 1 ≤ length trees
inside from d to least [] at begins ends rest tile after before = absurd (omega (arith, tile))
inside from d to least (tree ∷ trees) at begins ends rest tile after before =
    let here = begins_first tree.depth tree.offset at tile.0 in
    let lower : tree.depth < d = elim (cases_lt tree.depth d) [
      | inl less ↦ less
      | inr more ↦ absurd (omega (arith, apart from at d begins (begins_lower at d tree.depth more here) after, before))
    ] in
    let end : end_block_of tree.depth tree.offset ≡ at + 2 ^ tree.depth = omega (arith, end_first tree.depth tree.offset, tile.0) in
    let further = subst (λ (b : ℕ). Tile trees b to) end tile.1 in
    let within : tree.depth ≤ d = omega (arith, lower) in
    let stays : at + 2 ^ tree.depth ≤ from + 2 ^ d = apart at (from + 2 ^ d) tree.depth here (begins_after from d tree.depth within begins) before in
    elim (cases_eq (at + 2 ^ tree.depth) (from + 2 ^ d)) [
      | inl reached ↦ omega (arith, rest trees (subst (λ (b : ℕ). Tile trees b to) reached further))
      | inr short ↦
          let more = inside from d to least trees (at + 2 ^ tree.depth) begins ends rest further (omega (arith, after)) (omega (arith, stays, short)) in
          omega (arith, more)
    ]

-- no tiling is shorter, and as short is the cover alone
abbrev pub IsBest : ℕ → ℕ → List Subtree → Type 0
IsBest from to trees =
    (length (cover_of from to) ≤ length trees)
    × (length trees ≤ length (cover_of from to) → trees ≡ cover_of from to)

best_step : (d from to : ℕ) (tree : Subtree) (trees : List Subtree) → IsLargest d from to → Tile (tree ∷ trees) from to
    → ((ts : List Subtree) → Tile ts (from + 2 ^ d) to → IsBest (from + 2 ^ d) to ts) → IsBest from to (tree ∷ trees)
best_step d from to tree trees largest tile rest =
    let here = begins_first tree.depth tree.offset from tile.0 in
    let end : end_block_of tree.depth tree.offset ≡ from + 2 ^ tree.depth = omega (arith, end_first tree.depth tree.offset, tile.0) in
    let further = subst (λ (b : ℕ). Tile trees b to) end tile.1 in
    let ends : from + 2 ^ tree.depth ≤ to = tile-le trees _ to further in
    let is = cover-some d from to largest in
    elim (cases_lt d tree.depth) [
      | inl deeper ↦ absurd (omega (arith, larger d from to tree.depth largest deeper here, ends))
      | inr within ↦ elim (cases_eq tree.depth d) [
        | inl same ↦
            let begins = ap (λ (k : ℕ). first_block_of k tree.offset) (sym same) ∙ tile.0 ∙ sym (largest_first d from to largest) in
            let place = same_offset d tree.offset (from / 2 ^ d) begins in
            let tree_is : tree ≡ subtree d (from / 2 ^ d) = ap (λ (k : ℕ). subtree k tree.offset) same ∙ ap (λ (o : ℕ). subtree d o) place in
            let after = subst (λ (k : ℕ). Tile trees (from + 2 ^ k) to) same further in
            let lower = rest trees after in
            rw is (
              omega (arith, lower.0),
              λ few.
                  ap (λ (t : Subtree). t ∷ trees) tree_is ∙ ap (λ (ts : List Subtree). subtree d (from / 2 ^ d) ∷ ts) (lower.1 (omega (arith, few))),
            )
        | inr other ↦
            let less : tree.depth < d = omega arith in
            let more = inside from d to (length (cover_of (from + 2 ^ d) to)) trees (from + 2 ^ tree.depth) largest.begins largest.ends
            (λ ts t. (rest ts t).0) further (omega (arith, pow_pos tree.depth)) (omega (arith, pow-lt less)) in
            rw is (omega (arith, more), λ few. absurd (omega (arith, more, few)))
      ]
    ]

best_in : (s from to : ℕ) → to - from ≤ s → (trees : List Subtree) → Tile trees from to → IsBest from to trees
best_in s from to enough [] tile = rw (cover-none from to (omega (arith, tile))) (omega arith, λ _. refl)
best_in zero from to enough (tree ∷ trees) tile =
    absurd (omega (arith, tile.0, end_first tree.depth tree.offset, tile-le trees _ to tile.1, pow_pos tree.depth))
best_in (suc s) from to enough (tree ∷ trees) tile =
    let some : from < to = omega (arith, tile.0, end_first tree.depth tree.offset, tile-le trees _ to tile.1, pow_pos tree.depth) in
    let fewer : to - (from + 2 ^ depth_at from to) ≤ s = omega (arith, some, pow_pos (depth_at from to)) in
    best_step _ from to tree trees (largest-is from to some) tile (best_in s _ to fewer)

pub best-cover : (from to : ℕ) (trees : List Subtree) → Tile trees from to → IsBest from to trees
best-cover from to = best_in (to - from) from to (omega arith)

-- two odd places of a row begin the row above
even_after : (n d : ℕ) → n % 2 ^ d ≡ 0 → (n % 2 ^ suc d ≡ 0 → ⊥) → (n + 2 ^ d) % 2 ^ suc d ≡ 0
even_after n d begins odd = elim (digit d n) [
  | inr none ↦ absurd (odd (omega (arith, begins, start-zero d n none, shr_split n d, shr_split n (suc d))))
  | inl one ↦
      let is : n + 2 ^ d ≡ start_of (suc d) n + 2 ^ suc d = omega (arith, begins, start-one d n one, shr_split n d, pow-succ' 2 d) in
      ap (λ (k : ℕ). k % 2 ^ suc d) is ∙ add-mod_right (start_of (suc d) n) (2 ^ suc d) ∙ mul-mod_left (n / 2 ^ suc d) (2 ^ suc d)
]

-- the depths rise, and then fall: a step of either
length_step : (s d from to m j : ℕ) → to - from ≤ suc s → from % 2 ^ j ≡ 0 → to < from + 2 ^ m → j ≤ m → IsLargest d from to
    → ((n k : ℕ) → to - (from + 2 ^ d) ≤ s → (from + 2 ^ d) % 2 ^ k ≡ 0 → to < from + 2 ^ d + 2 ^ n → k ≤ n
    → length (cover_of (from + 2 ^ d) to) + k ≤ 2 * n)
    → length (cover_of from to) + j ≤ 2 * m
length_step s d from to m j enough begins below within largest rest =
    let fewer : to - (from + 2 ^ d) ≤ s = omega (arith, pow_pos d, enough, largest.ends) in
    let small : d < m = elim (cases_lt d m) [ inl less ↦ less | inr more ↦ absurd (omega (arith, pow_mono more, largest.ends, below)) ] in
    elim (cases_eq (from % 2 ^ suc d) 0) [
      | inl even ↦
          let last = largest.next even in
          let after = rest d d fewer (begins_after from d d (omega arith) largest.begins) (omega (arith, last, pow-succ' 2 d)) (omega arith) in
          rw (cover-some d from to largest) (omega (arith, after, small, within))
      | inr odd ↦
          let lower : j ≤ d = elim (cases_lt d j) [
            | inr less ↦ less
            | inl more ↦ absurd (odd (begins_lower from (suc d) j (omega (arith, more)) begins))
          ] in
          let after = rest m (suc d) fewer (even_after from d largest.begins odd) (omega (arith, below)) (omega (arith, small)) in
          rw (cover-some d from to largest) (omega (arith, after, lower))
    ]

fall_step : (s d from to b : ℕ) → to - from ≤ suc s → from % 2 ^ b ≡ 0 → to < from + 2 ^ b → IsLargest d from to
    → ((c : ℕ) → to - (from + 2 ^ d) ≤ s → (from + 2 ^ d) % 2 ^ c ≡ 0 → to < from + 2 ^ d + 2 ^ c → FallBelow c (cover_of (from + 2 ^ d) to))
    → FallBelow b (cover_of from to)
fall_step s d from to b enough begins below largest rest =
    let fewer : to - (from + 2 ^ d) ≤ s = omega (arith, pow_pos d, enough, largest.ends) in
    let small : d < b = elim (cases_lt d b) [ inl less ↦ less | inr more ↦ absurd (omega (arith, pow_mono more, largest.ends, below)) ] in
    let up : suc d ≤ b = omega (arith, small) in
    let last = largest.next (begins_lower from (suc d) b up begins) in
    rw (cover-some d from to largest) (small, rest d fewer (begins_after from d d (omega arith) largest.begins) (omega (arith, last, pow-succ' 2 d)))

-- where the first place begins a subtree of depth j and fewer than 2 ^ m blocks are left
length_in : (s from to m j : ℕ) → to - from ≤ s → from % 2 ^ j ≡ 0 → to < from + 2 ^ m → j ≤ m → length (cover_of from to) + j ≤ 2 * m
length_in zero from to m j enough begins below within = rw (cover-none from to (omega arith)) (omega (arith, within))
length_in (suc s) from to m j enough begins below within = elim (cases_lt from to) [
  | inr none ↦ rw (cover-none from to none) (omega (arith, within))
  | inl some ↦
      length_step s (depth_at from to) from to m j enough begins below within (largest-is from to some)
      (length_in s (from + 2 ^ depth_at from to) to)
]

pub length-cover : (k from to : ℕ) → 0 < k → from ≤ to → to ≤ 2 ^ k → length (cover_of from to) ≤ 2 * k
length-cover k from to some ordered within = elim (cases_lt to (from + 2 ^ k)) [
  | inl less ↦ omega (arith, length_in (to - from) from to k 0 (omega arith) (omega arith) less (omega arith))
  | inr whole ↦
      let largest : IsLargest k from to = record {
        begins = ap (λ (n : ℕ). n % 2 ^ k) (omega (arith, whole, within)) ∙ zero-mod (2 ^ k);
        ends = whole;
        next = λ _. omega (arith, pow-succ' 2 k, within, pow_pos k);
      } in
      rw (cover-some k from to largest, cover-none (from + 2 ^ k) to (omega (arith, within))) (omega (arith, some))
]

-- the cover from the first block on is the full roots
fall_in : (s from to b : ℕ) → to - from ≤ s → from % 2 ^ b ≡ 0 → to < from + 2 ^ b → FallBelow b (cover_of from to)
fall_in zero from to b enough begins below = rw (cover-none from to (omega arith)) tt
fall_in (suc s) from to b enough begins below = elim (cases_lt from to) [
  | inr none ↦ rw (cover-none from to none) tt
  | inl some ↦ fall_step s (depth_at from to) from to b enough begins below (largest-is from to some) (fall_in s (from + 2 ^ depth_at from to) to)
]

pub cover-full : (n : ℕ) → cover_of 0 n ≡ full_roots_of n
cover-full n =
    let falls = fall_in n 0 n n (omega arith) (zero-mod (2 ^ n)) (omega (arith, below_pow n)) in
    only-full n (cover_of 0 n) (tile-cover 0 n (omega arith)) (fall_any n _ falls)

-- the code's depth: no more than the last place's trailing zeros, nor than the room has digits
low_zeros : (t n : ℕ) → ((i : ℕ) → i < t → bit_at n i ≡ 0) → n % 2 ^ t ≡ 0
low_zeros zero n zeros = omega arith
low_zeros (suc t) n zeros =
    let lower = low_zeros t n (λ i below. zeros i (omega (arith, below))) in
    omega (arith, lower, start-zero t n (zeros t (omega arith)), shr_split n t, shr_split n (suc t))

trailing_begins : (n d : ℕ) → n < 2 ^ 64 → d ≤ trailing_zeros w64 n → n % 2 ^ d ≡ 0
trailing_begins n d small within = elim (cases_lt 0 n) [
  | inl some ↦ low_zeros d n (λ i below. (bit_at-trailing_zeros w64 n some small).2 i (omega (arith, below, within)))
  | inr none ↦ let is : n ≡ 0 = omega arith in ap (λ (k : ℕ). k % 2 ^ d) is ∙ zero-mod (2 ^ d)
]

pub largest-room : (d from to : ℕ) → from < 2 ^ 64 → from < to → d ≤ trailing_zeros w64 from → 2 ^ d ≤ to - from
    → to - from < 2 * 2 ^ d → IsLargest d from to
largest-room d from to small some within low high = record {
  begins = trailing_begins from d small within;
  ends = omega (arith, low, some);
  next = λ _. omega (arith, high, pow-succ' 2 d);
}

pub largest-aligned : (d r from to : ℕ) → from < 2 ^ 64 → from < to → d ≡ trailing_zeros w64 from → d < r → r < 64
    → 2 ^ r ≤ to - from → IsLargest d from to
largest-aligned d r from to small some is less wide low =
    let positive : 0 < from = elim (cases_lt 0 from) [
      | inl more ↦ more
      | inr none ↦
          let nothing : from ≡ 0 = omega arith in
          let all : trailing_zeros w64 from ≡ 64 = ap (λ (n : ℕ). trailing_zeros w64 n) nothing ∙ trailing_of_zero 64 in
          absurd (omega (arith, all, is, less, wide))
    ] in
    let bits = bit_at-trailing_zeros w64 from positive small in
    let one : bit_at from d ≡ 1 = ap (λ (k : ℕ). bit_at from k) is ∙ bits.1 in
    let begins = trailing_begins from d small (omega (arith, is)) in
    record {
      begins = begins;
      ends = omega (arith, pow-lt less, low, some);
      next = λ even. absurd (omega (arith, even, begins, start-one d from one, shr_split from d, shr_split from (suc d), pow_pos d));
    }

pub largest-code : (d from to : ℕ) → from < to → IsLargest d from to → d ≡ depth_at from to
largest-code d from to some largest = same_largest d _ from to largest (largest-is from to some)

-- the next place of a cover
pub cover-push : (d at to size : ℕ) (places more all : List ℕ) → at < to → d ≡ depth_at at to → size ≡ 2 ^ d
    → more ≡ places ++ (2 * at + size - 1) ∷ [] → places ++ numbers_of (cover_of at to) ≡ all
    → more ++ numbers_of (cover_of (at + size) to) ≡ all
cover-push d at to size places more all some is size_is pushed joined =
    let largest = subst (λ (k : ℕ). IsLargest k at to) (sym is) (largest-is at to some) in
    let here : 2 * at + size - 1 ≡ number d (at / 2 ^ d) = omega (arith, size_is, number_first d (at / 2 ^ d), largest_first d at to largest) in
    let next : at + size ≡ at + 2 ^ d = omega (arith, size_is) in
    ap (λ (xs : List ℕ). xs ++ numbers_of (cover_of (at + size) to)) pushed
    ∙ append_assoc places ((2 * at + size - 1) ∷ []) (numbers_of (cover_of (at + size) to))
    ∙ ap (λ (x : ℕ). places ++ x ∷ numbers_of (cover_of (at + size) to)) here
    ∙ ap (λ (b : ℕ). places ++ number d (at / 2 ^ d) ∷ numbers_of (cover_of b to)) next
    ∙ ap (λ (trees : List Subtree). places ++ numbers_of trees) (sym (cover-some d at to largest))
    ∙ joined

pub cover-room : (from at to : ℕ) (places : List ℕ) → at < to → places ++ numbers_of (cover_of at to) ≡ numbers_of (cover_of from to)
    → length places < length (cover_of from to)
cover-room from at to places some joined =
    let more : 0 < length (cover_of at to) = rw (cover-some _ at to (largest-is at to some)) (omega arith) in
    let whole : length places + length (numbers_of (cover_of at to)) ≡ length (numbers_of (cover_of from to)) =
    sym (length-append places (numbers_of (cover_of at to))) ∙ ap length joined in
    omega (arith, more, simp length-map at whole)

pub cover-done : (at to : ℕ) (places all : List ℕ) → to ≤ at → places ++ numbers_of (cover_of at to) ≡ all → places ≡ all
cover-done at to places all done joined =
    sym (append-nil places) ∙ ap (λ (trees : List Subtree). places ++ numbers_of trees) (sym (cover-none at to done)) ∙ joined
