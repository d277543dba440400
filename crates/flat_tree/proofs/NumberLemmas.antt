-- The numbers of subtrees by depth and offset.
use Rattle.std.proofs.Common.{◌≡◌, ℕ, zero, suc, ◌+◌, ◌-◌, ◌*◌, ◌/◌, ◌%◌, ◌^◌, ◌<◌, ◌≤◌, inl, inr, refl, sym, ◌∙◌, ap, subst, arith, add-one}
use Rattle.std.specs.Int.{bit_at, trailing_ones, w64}
use Rattle.std.proofs.lemmas.Bool.{cases_lt, cases_eq, cases_order}
use Rattle.std.proofs.Math.Nat.{pow-succ'}
use Rattle.std.proofs.Math.Pow.{pow_mono, pow-lt}
use Rattle.std.proofs.lemmas.Nat.{pow_pos, shr_high, shr_split, mod_below, one_shl, pow-add, mul-le}
use Rattle.flat_tree.specs.declared.limits.TheConstants.{MAX_DEPTH, MAX_NODE}
use Rattle.std.proofs.lemmas.Nat.Bits.{bit_at_cat_low, bit_at_ones, bit_at_ones_above, bit_at-trailing_ones}
use Rattle.flat_tree.specs.Subtrees.{number, first_block_of, end_block_of}

-- one more digit
pub pow_up : (d : ℕ) → 2 ^ (d + 1) ≡ 2 * 2 ^ d
pow_up d = ap (λ (k : ℕ). 2 ^ k) (add-one d) ∙ pow-succ' 2 d

-- a node and its first block
pub number_first : (d o : ℕ) → number d o + 1 ≡ 2 * first_block_of d o + 2 ^ d
unfolding number first_block_of
number_first d o = rw pow_up (omega (arith, pow_pos d))

-- a subtree has 2 ^ depth blocks
pub end_first : (d o : ℕ) → end_block_of d o ≡ first_block_of d o + 2 ^ d
unfolding first_block_of end_block_of
end_first d o = omega arith

-- the halves of a subtree have its blocks
pub first-suc : (d o : ℕ) → first_block_of (suc d) o ≡ first_block_of d (2 * o)
unfolding first_block_of
first-suc d o = rw (pow-succ' 2 d) (omega arith)

pub end-suc : (d o : ℕ) → end_block_of (suc d) o ≡ end_block_of d (2 * o + 1)
unfolding end_block_of
end-suc d o = rw (pow-succ' 2 d) (omega arith)

pub halves_meet : (d o : ℕ) → end_block_of d (2 * o) ≡ first_block_of d (2 * o + 1)
unfolding first_block_of end_block_of
halves_meet d o = refl

-- a leaf has its block alone
pub leaf : (o : ℕ) → (number 0 o ≡ 2 * o) × (first_block_of 0 o ≡ o) × (end_block_of 0 o ≡ o + 1)
unfolding number first_block_of end_block_of
leaf o = (omega arith, omega arith, omega arith)

-- a block is in the subtree of its own digits alone
pub inside_of : (d i : ℕ) → (first_block_of d (i / 2 ^ d) ≤ i) × (i < end_block_of d (i / 2 ^ d))
unfolding first_block_of
inside_of d i =
    (omega (arith, shr_split i d), omega (arith, end_first d (i / 2 ^ d), shr_split i d, mod_below i (2 ^ d) (pow_pos d)))

pub inside_only : (d o i : ℕ) → first_block_of d o ≤ i → i < end_block_of d o → i / 2 ^ d ≡ o
unfolding first_block_of
inside_only d o i low high =
    let rest : i - o * 2 ^ d < 2 ^ d = omega (arith, end_first d o, low, high) in
    let is : i ≡ o * 2 ^ d + (i - o * 2 ^ d) = omega (arith, low) in
    ap (λ (n : ℕ). n / 2 ^ d) is ∙ shr_high o d (i - o * 2 ^ d) rest

-- a node is less than twice the end of its blocks
pub number_below : (d o : ℕ) → number d o < 2 * end_block_of d o
number_below d o = omega (arith, number_first d o, end_first d o)

-- the digits of a node: ones below its depth, and a zero there
bit-below : (d o i : ℕ) → i < d → bit_at (number d o) i ≡ 1
unfolding number
bit-below d o i below =
    let within : i < d + 1 = omega arith in
    bit_at_cat_low o (d + 1) (2 ^ d - 1) i within ∙ bit_at_ones d i below

bit-there : (d o : ℕ) → bit_at (number d o) d ≡ 0
unfolding number
bit-there d o =
    let within : d < d + 1 = omega arith in
    let same : d ≤ d = omega arith in
    bit_at_cat_low o (d + 1) (2 ^ d - 1) d within ∙ bit_at_ones_above d d same

-- a place with a zero and ones below it is one place
lowest_is_one : (f : ℕ → ℕ) (s t : ℕ) → f s ≡ 0 → ((i : ℕ) → i < s → f i ≡ 1) → f t ≡ 0 → ((i : ℕ) → i < t → f i ≡ 1) → s ≡ t
lowest_is_one f s t at_s below_s at_t below_t = elim (cases_order s t) [
  | inl same ↦ same
  | inr (inl before) ↦ omega (arith, below_t s before)
  | inr (inr after) ↦ omega (arith, below_s t after)
]

-- the lowest zero digit of a node is its depth
lowest : (d o t : ℕ) → bit_at (number d o) t ≡ 0 → ((i : ℕ) → i < t → bit_at (number d o) i ≡ 1) → t ≡ d
lowest d o t zero_there ones = lowest_is_one (λ i. bit_at (number d o) i) t d zero_there ones (bit-there d o) (bit-below d o)

pub trailing_ones-number : (node d o : ℕ) → node + 1 < 2 ^ 64 → node ≡ number d o → trailing_ones w64 node ≡ d
trailing_ones-number node d o small is =
    let P : ℕ → Type 0 = λ (n : ℕ). n + 1 < 2 ^ 64 → trailing_ones w64 n ≡ d in
    let at_number : P (number d o) = λ below. let bits = bit_at-trailing_ones w64 (number d o) below in lowest d o _ bits.1 bits.2 in
    subst P (sym is) at_number small

-- nodes of two subtrees are equal for equal subtrees alone
pub same_depth : (d o e p : ℕ) → number d o ≡ number e p → d ≡ e
same_depth d o e p same =
    let zero_there : bit_at (number e p) d ≡ 0 = sym (ap (λ (n : ℕ). bit_at n d) same) ∙ bit-there d o in
    lowest e p d zero_there (λ i below. sym (ap (λ (n : ℕ). bit_at n i) same) ∙ bit-below d o i below)

pub shifted : (d o : ℕ) → number d o / 2 ^ d / 2 ≡ o
unfolding number
shifted d o =
    let below : 2 ^ d - 1 < 2 ^ d = omega (arith, pow_pos d) in
    let is : o * 2 ^ (d + 1) + (2 ^ d - 1) ≡ 2 * o * 2 ^ d + (2 ^ d - 1) = rw pow_up (omega arith) in
    rw is (rw (shr_high (2 * o) d (2 ^ d - 1) below) (omega arith))

pub same_place : (d o p : ℕ) → number d o ≡ number d p → o ≡ p
same_place d o p same = sym (shifted d o) ∙ ap (λ (n : ℕ). n / 2 ^ d / 2) same ∙ shifted d p

pub number-up : (d o : ℕ) → number (d + 1) o ≡ 2 * number d o + 1
unfolding number
number-up d o = rw (pow_up (d + 1), pow_up d) (omega (arith, pow_pos d))

-- every number is a node
some_in : (k n : ℕ) → n < k → (d : ℕ) × ((o : ℕ) × (n ≡ number d o))
unfolding number
some_in zero n below = absurd (omega arith)
some_in (suc k) n below = elim (cases_eq (n % 2) 0) [
  | inl even ↦ (0, (n / 2, omega arith))
  | inr odd ↦
      let half : n / 2 < k = omega arith in
      let lower = some_in k (n / 2) half in
      let is : n / 2 ≡ number lower.0 lower.1.0 = lower.1.1 in
      (lower.0 + 1, (lower.1.0, omega (arith, number-up lower.0 lower.1.0, is)))
]

pub some_number : (n : ℕ) → (d : ℕ) × ((o : ℕ) × (n ≡ number d o))
some_number n = some_in (n + 1) n (omega arith)

-- a node's depth is bounded by its digits
pub depth_below : (d o k : ℕ) → number d o < 2 ^ k → d ≤ k
depth_below d o k below = elim (cases_lt k d) [
  | inl deeper ↦ omega (arith, number_first d o, pow-lt deeper)
  | inr fits ↦ fits
]

-- the row above, from a left and from a right half
pub parent_of_left : (d o : ℕ) → o % 2 ≡ 0 → number d o + 2 ^ d ≡ number (d + 1) (o / 2)
unfolding number
parent_of_left d o left =
    let half : o ≡ 2 * (o / 2) = omega arith in
    let P : ℕ → Type 0 = λ n. number d n + 2 ^ d ≡ number (d + 1) (o / 2) in
    subst P (sym half) (rw (pow_up (d + 1), pow_up d) (omega (arith, pow_pos d)))

pub parent_of_right : (d o : ℕ) → o % 2 ≡ 1 → number d o ≡ number (d + 1) (o / 2) + 2 ^ d
unfolding number
parent_of_right d o right =
    let half : o ≡ 2 * (o / 2) + 1 = omega arith in
    let P : ℕ → Type 0 = λ n. number d n ≡ number (d + 1) (o / 2) + 2 ^ d in
    subst P (sym half) (rw (pow_up (d + 1), pow_up d) (omega (arith, pow_pos d)))

-- one place further in a row
pub number-next : (d o : ℕ) → number d (o + 1) ≡ number d o + 2 * 2 ^ d
unfolding number
number-next d o = rw pow_up (omega arith)

-- the halves of a subtree
pub left_half : (d o : ℕ) → number (d + 1) o ≡ number d (2 * o) + 2 ^ d
unfolding number
left_half d o = rw (pow_up (d + 1), pow_up d) (omega (arith, pow_pos d))

pub right_half : (d o : ℕ) → number d (2 * o + 1) ≡ number (d + 1) o + 2 ^ d
unfolding number
right_half d o = rw (pow_up (d + 1), pow_up d) (omega (arith, pow_pos d))

pub depth_some : (node t : ℕ) → node + 1 < 2 ^ 64 → t ≡ trailing_ones w64 node → (o : ℕ) × (node ≡ number t o)
depth_some node t small is =
    let some = some_number node in
    let same : t ≡ some.0 = is ∙ trailing_ones-number node some.0 some.1.0 small some.1.1 in
    (some.1.0, some.1.1 ∙ ap (λ (d : ℕ). number d some.1.0) (sym same))

-- a node is no less than its reach
pub reach_below : (d o : ℕ) → 2 ^ d ≤ number d o + 1
reach_below d o = omega (arith, number_first d o)

pub shl_one : (t d : ℕ) → t ≡ d → t < 63 → 1 * 2 ^ t % 2 ^ 64 ≡ 2 ^ d
shl_one t d same small = let P : ℕ → Type 0 = λ n. 1 * 2 ^ t % 2 ^ 64 ≡ 2 ^ n in subst P same (one_shl t 64 (omega arith))

-- the sibling of a left and of a right half
pub sibling_of_left : (d o : ℕ) → o % 2 ≡ 0 → number d o + 2 * 2 ^ d ≡ number d (o + 1 - 2 * (o % 2))
sibling_of_left d o left = let is : o + 1 - 2 * (o % 2) ≡ o + 1 = omega arith in rw is (sym (number-next d o))

pub sibling_of_right : (d o : ℕ) → o % 2 ≡ 1 → number d o ≡ number d (o + 1 - 2 * (o % 2)) + 2 * 2 ^ d
sibling_of_right d o right =
    let before : o + 1 - 2 * (o % 2) + 1 ≡ o = omega arith in
    ap (λ (n : ℕ). number d n) (sym before) ∙ number-next d (o + 1 - 2 * (o % 2))

pub number_shl : (d o : ℕ) → (2 * o + 1) * 2 ^ d ≡ number d o + 1
unfolding number
number_shl d o = rw pow_up (omega (arith, pow_pos d))

-- the largest number that is asked for
pub index_fits : (d o : ℕ) → d ≤ MAX_DEPTH → o ≤ 2 ^ (MAX_DEPTH - d) → (2 * o + 1) * 2 ^ d ≤ MAX_NODE
index_fits d o low inside =
    let back : MAX_DEPTH - d + d ≡ MAX_DEPTH = omega arith in
    let whole : 2 ^ (MAX_DEPTH - d) * 2 ^ d ≡ 2 ^ MAX_DEPTH = sym (pow-add 2 (MAX_DEPTH - d) d) ∙ ap (λ (k : ℕ). 2 ^ k) back in
    let most : o * 2 ^ d ≤ 2 ^ (MAX_DEPTH - d) * 2 ^ d = mul-le o (2 ^ d) (2 ^ (MAX_DEPTH - d)) (2 ^ d) inside (omega arith) in
    omega (arith, whole, most, pow_mono low)
