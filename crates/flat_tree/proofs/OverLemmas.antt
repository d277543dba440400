-- The root over a block: its digit is the highest in which the block's number and the number of blocks
-- differ.
use Rattle.std.proofs.Common.{◌≡◌, ℕ, zero, suc, ◌+◌, ◌-◌, ◌*◌, ◌/◌, ◌%◌, ◌^◌, ◌<◌, ◌≤◌, inl, inr, List, ◌∷◌, refl, sym, ◌∙◌, ap, subst, arith, add-one, Some, slice_get}
use Rattle.std.specs.Int.{bit_at}
use Rattle.std.specs.Int.Count.{ones}
use Rattle.std.specs.Int.RustNames.{bit_xor}
use Rattle.std.proofs.lemmas.Bool.{cases_lt, cases_eq, lt-ltb, le-ltb}
use Rattle.std.proofs.Math.Nat.{pow-succ'}
use Rattle.std.proofs.Math.Pow.{pow_mono, pow-lt}
use Rattle.std.proofs.lemmas.Nat.{pow_pos, shr-shr, shr_split, mod_below, xor_shr, ones_cat, div_below, le-div, mul-le}
use Rattle.std.proofs.lemmas.Nat.Bits.{bit_at_xor, bit_at-lt, bit_at-zero, same_from_bits}
use Rattle.flat_tree.specs.Subtrees.{Subtree, subtree, end_block_of}
use Rattle.flat_tree.specs.Roots.{roots_below, full_roots_of, place_past, depth_past, place_over, depth_over}
use Rattle.flat_tree.proofs.RootLemmas.{digit, roots-one, roots-zero, root_end, below_pow}

-- numbers without a digit that differs are equal
xor_none : (a b : ℕ) → bit_xor a b ≡ 0 → a ≡ b
xor_none a b none = same_from_bits a b (λ i.
    let differs : (bit_at a i + bit_at b i) % 2 ≡ 0 = sym (bit_at_xor a b i) ∙ ap (λ (n : ℕ). bit_at n i) none ∙ bit_at-zero i in
    omega (arith, differs, bit_at-lt a i, bit_at-lt b i))

pub xor_some : (a b : ℕ) → b < a → 0 < bit_xor a b
xor_some a b less = elim (cases_eq (bit_xor a b) 0) [
  | inl none ↦ absurd (omega (arith, xor_none a b none, less))
  | inr some ↦ omega (arith, some)
]

-- the digit of the root over a block: one in the number of blocks, zero in the block's, and no
-- difference above
pub record IsOver (blocks block depth : ℕ) : Type 0 where
  pub one : blocks / 2 ^ depth % 2 ≡ 1
  pub next : block / 2 ^ depth + 1 ≡ blocks / 2 ^ depth

-- of two numbers with equal halves that differ, the greater is odd
differ_last : (a b : ℕ) → a / 2 ≡ b / 2 → (a % 2 + b % 2) % 2 ≡ 1 → b ≤ a → (a % 2 ≡ 1) × (b + 1 ≡ a)
differ_last a b halves differ ordered = (omega arith, omega arith)

pub over-xor : (n i d : ℕ) → i < n → 2 ^ d ≤ bit_xor n i → bit_xor n i < 2 * 2 ^ d → IsOver n i d
over-xor n i d less low high =
    let up : (m : ℕ) → m / 2 ^ (d + 1) ≡ m / 2 ^ d / 2 = λ m. sym (shr-shr m d 1) in
    let wide : 2 ^ (d + 1) ≡ 2 * 2 ^ d = ap (λ (k : ℕ). 2 ^ k) (add-one d) ∙ pow-succ' 2 d in
    let small : bit_xor n i / 2 ^ (d + 1) < 1 = div_below (bit_xor n i) (2 ^ (d + 1)) 1 (pow_pos (d + 1)) (omega (arith, high, wide)) in
    let same : n / 2 ^ (d + 1) ≡ i / 2 ^ (d + 1) = xor_none _ _ (omega (arith, small, xor_shr n i (d + 1))) in
    let higher : n / 2 ^ d / 2 ≡ i / 2 ^ d / 2 = sym (up n) ∙ same ∙ up i in
    let least : 1 ≤ bit_xor n i / 2 ^ d = le-div 1 (bit_xor n i) (2 ^ d) (pow_pos d) (omega (arith, low)) in
    let most : bit_xor n i / 2 ^ d < 2 = div_below (bit_xor n i) (2 ^ d) 2 (pow_pos d) high in
    let differ : (n / 2 ^ d % 2 + i / 2 ^ d % 2) % 2 ≡ 1 = omega (arith, bit_at_xor n i d, least, most) in
    let ordered : i / 2 ^ d ≤ n / 2 ^ d = le-div (i / 2 ^ d) n (2 ^ d) (pow_pos d) (omega (arith, shr_split i d, less)) in
    let last = differ_last (n / 2 ^ d) (i / 2 ^ d) higher differ ordered in
    record { one = last.0; next = last.1 }

-- the root over the block is among the subtrees
pub record IsAmong (trees : List Subtree) (block depth place : ℕ) : Type 0 where
  pub place_is : place_past trees block ≡ place
  pub depth_is : depth_past trees block ≡ depth
  pub root : slice_get trees place ≡ Some (subtree depth (block / 2 ^ depth))

-- it is the first that ends past the block, and else it is further on
among_here : (d o : ℕ) (trees : List Subtree) (block : ℕ) → block < end_block_of d o → o ≡ block / 2 ^ d
    → IsAmong (subtree d o ∷ trees) block d 0
unfolding place_past depth_past
among_here d o trees block inside is =
    let yes = lt-ltb block (end_block_of d o) inside in
    record { place_is = rw yes refl; depth_is = rw yes refl; root = ap (λ (p : ℕ). Some (subtree d p)) is }

among_further : (tree : Subtree) (trees : List Subtree) (block depth place : ℕ) → end_block_of tree.depth tree.offset ≤ block
    → IsAmong trees block depth place → IsAmong (tree ∷ trees) block depth (place + 1)
unfolding place_past depth_past
among_further tree trees block depth place after among =
    let past = le-ltb block (end_block_of tree.depth tree.offset) after in
    record {
      place_is = rw past (ap (λ (p : ℕ). p + 1) among.place_is);
      depth_is = rw past among.depth_is;
      root = rw (add-one place) among.root;
    }

-- it is so among the roots of the k lower digits, after as many as the higher digits of n have
abbrev pub IsFound : ℕ → ℕ → ℕ → ℕ → Type 0
IsFound n i d k =
    (n / 2 ^ k ≡ i / 2 ^ k)
    × ((place : ℕ) × ((ones (n / 2 ^ suc d) ≡ place + ones (n / 2 ^ k)) × IsAmong (roots_below k n) i d place))

half : (n k : ℕ) → n / 2 ^ suc k ≡ n / 2 ^ k / 2
half n k = ap (λ (j : ℕ). n / 2 ^ j) (sym (add-one k)) ∙ sym (shr-shr n k 1)

ones_none : ones 0 ≡ 0
unfolding ones
ones_none = refl

ones-half : (n : ℕ) → ones n ≡ n % 2 + ones (n / 2)
unfolding ones
ones-half n =
    let split : n ≡ n / 2 * 2 ^ 1 + n % 2 = omega arith in
    let parts = ones_cat 1 (n / 2) (n % 2) (omega arith) in
    let last : ones (n % 2) ≡ n % 2 = elim (cases_eq (n % 2) 0) [
      | inl none ↦ ap ones none ∙ sym none
      | inr some ↦ let one : n % 2 ≡ 1 = omega arith in ap ones one ∙ sym one
    ] in
    ap ones split ∙ parts ∙ omega (arith, last)

found_first : (n i d : ℕ) → IsOver n i d → IsFound n i d (suc d)
found_first n i d over =
    let halves : n / 2 ^ suc d ≡ i / 2 ^ suc d = omega (arith, half n d, half i d, over.one, over.next) in
    let place : n / 2 ^ d - 1 ≡ i / 2 ^ d = omega (arith, over.next) in
    let count : n / 2 ^ d * 2 ^ d ≡ (i / 2 ^ d + 1) * 2 ^ d = ap (λ (q : ℕ). q * 2 ^ d) (sym over.next) in
    let inside : i < end_block_of d (n / 2 ^ d - 1) = omega (arith, root_end d n over.one, count, shr_split i d, mod_below i (2 ^ d) (pow_pos d)) in (
      halves,
      (
        0,
        (
          omega arith,
          subst (λ (trees : List Subtree). IsAmong trees i d 0) (sym (roots-one d n over.one))
              (among_here d (n / 2 ^ d - 1) (roots_below d n) i inside place),
        ),
      ),
    )

found_up : (n i d k : ℕ) → d < k → IsFound n i d k → IsFound n i d (suc k)
found_up n i d k above (equal, (place, (count, among))) =
    let halves : n / 2 ^ suc k ≡ i / 2 ^ suc k = omega (arith, half n k, half i k, equal) in
    let fewer : ones (n / 2 ^ k) ≡ n / 2 ^ k % 2 + ones (n / 2 ^ suc k) =
    ones-half (n / 2 ^ k) ∙ ap (λ (q : ℕ). n / 2 ^ k % 2 + ones q) (sym (half n k)) in
    elim (digit k n) [
      | inl one ↦
          let ends : end_block_of k (n / 2 ^ k - 1) ≤ i = omega (arith, root_end k n one, ap (λ (q : ℕ). q * 2 ^ k) equal, shr_split i k) in (
            halves,
            (
              place + 1,
              (
                omega (arith, count, fewer, one),
                subst (λ (trees : List Subtree). IsAmong trees i d (place + 1)) (sym (roots-one k n one))
                    (among_further (subtree k (n / 2 ^ k - 1)) (roots_below k n) i d place ends among),
              ),
            ),
          )
      | inr none ↦ (
        halves,
        (
          place,
          (
            omega (arith, count, fewer, none),
            subst (λ (trees : List Subtree). IsAmong trees i d place) (sym (roots-zero k n none)) among,
          ),
        ),
      )
    ]

found : (n i d k : ℕ) → IsOver n i d → d < k → IsFound n i d k
found n i d zero over above = absurd (omega arith)
found n i d (suc k) over above = elim (cases_eq d k) [
  | inl here ↦ subst (λ (j : ℕ). IsFound n i d (suc j)) here (found_first n i d over)
  | inr below ↦ let lower : d < k = omega arith in found_up n i d k lower (found n i d k over lower)
]

-- the root over the block, after as many roots as the higher digits have ones
pub over-full : (n i d : ℕ) → IsOver n i d → IsAmong (full_roots_of n) i d (ones (n / 2 ^ suc d))
unfolding full_roots_of
over-full n i d over =
    let big : 1 * 2 ^ d ≤ n / 2 ^ d * 2 ^ d = mul-le 1 (2 ^ d) (n / 2 ^ d) (2 ^ d) (omega (arith, over.next)) (omega arith) in
    let below : d < n = elim (cases_lt d n) [
      | inl less ↦ less
      | inr more ↦ absurd (omega (arith, big, shr_split n d, pow_mono more, below_pow n))
    ] in
    let all = found n i d n over below in
    let none : n / 2 ^ n ≡ 0 = omega (arith, div_below n (2 ^ n) 1 (pow_pos n) (omega (arith, below_pow n))) in
    let count : ones (n / 2 ^ suc d) ≡ all.1.0 = all.1.1.0 ∙ ap (λ (q : ℕ). all.1.0 + ones q) none ∙ omega (arith, ones_none) in
    subst (λ (place : ℕ). IsAmong (roots_below n n) i d place) (sym count) all.1.1.1

pub over_depth : (n i d k : ℕ) → IsOver n i d → n ≤ 2 ^ k → d ≤ k
over_depth n i d k over within =
    let big : 1 * 2 ^ d ≤ n / 2 ^ d * 2 ^ d = mul-le 1 (2 ^ d) (n / 2 ^ d) (2 ^ d) (omega (arith, over.next)) (omega arith) in
    elim (cases_lt k d) [
      | inl deeper ↦ absurd (omega (arith, big, shr_split n d, pow-lt deeper, within))
      | inr fits ↦ fits
    ]

-- as the code finds it
pub over-code : (n i d : ℕ) → IsOver n i d → IsAmong (full_roots_of n) i d (ones (n / 2 ^ d / 2))
over-code n i d over = subst (λ (q : ℕ). IsAmong (full_roots_of n) i d (ones q)) (half n d) (over-full n i d over)

-- a number's highest digit
highest : (k x : ℕ) → 0 < x → x < 2 ^ k → (d : ℕ) × ((2 ^ d ≤ x) × (x < 2 * 2 ^ d))
highest zero x some small = absurd (omega (arith, some, small))
highest (suc k) x some small = elim (cases_lt x (2 ^ k)) [
  | inl less ↦ highest k x some less
  | inr more ↦ (k, (more, omega (arith, small, pow-succ' 2 k)))
]

over_some : (n i : ℕ) → i < n → (d : ℕ) × IsOver n i d
over_some n i less =
    let top = highest (bit_xor n i) (bit_xor n i) (xor_some n i less) (below_pow (bit_xor n i)) in
    (top.0, over-xor n i top.0 less top.1.0 top.1.1)

-- the root over a block, as the definitions find it
pub root-over : (n i : ℕ) → i < n
    → slice_get (full_roots_of n) (place_over n i) ≡ Some (subtree (depth_over n i) (i / 2 ^ depth_over n i))
root-over n i less =
    let over = over_some n i less in
    let among = over-full n i over.0 over.1 in
    rw (among.place_is, among.depth_is) among.root

pub depth_over-le : (n i k : ℕ) → i < n → n ≤ 2 ^ k → depth_over n i ≤ k
depth_over-le n i k less within =
    let over = over_some n i less in
    rw (over-full n i over.0 over.1).depth_is (over_depth n i over.0 k over.1 within)
