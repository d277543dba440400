-- A run of ones in a word, and what it sets and unsets.
use Rattle.std.proofs.Common.{◌≡◌, ◌⊎◌, inl, inr, ℕ, ◌+◌, ◌-◌, ◌*◌, ◌/◌, ◌%◌, ◌^◌, ◌<◌, ◌≤◌, Bool, true, false, cond, eqb, sym, ◌∙◌, ap, arith}
use Rattle.std.specs.Int.{bit_at, w64}
use Rattle.std.specs.Int.RustNames.{bit_and, bit_or}
use Rattle.std.proofs.lemmas.Bool.{cases_lt}
use Rattle.std.proofs.lemmas.Bool.Decides.{nat_tests}
use Rattle.std.proofs.lemmas.Nat.{pow_pos, pow-add, shl_whole}
use Rattle.std.proofs.lemmas.Nat.Bits.{bit_at_or, bit_at_and, bit_at_not, bit_at-lt, bit_at_mask_inside, bit_at_mask_below, bit_at_mask_above, bit_at_ones, ones_shr}
use Rattle.std.proofs.Math.Pow.{pow_mono}
use Rattle.bit_field.specs.Places.{is_in}
use Rattle.bit_field.specs.Pages.{is_set}

less_one : (n y : ℕ) → n * y ≡ (n + 1) * y - y
less_one n y = omega arith

pub mask_is : (first count : ℕ) → 0 < count → first + count ≤ 64
    → (2 ^ 64 - 1) / 2 ^ (64 - count) * 2 ^ first % 2 ^ 64 ≡ 2 ^ (first + count) - 2 ^ first
mask_is first count some within =
    let length : 64 - (64 - count) ≡ count = omega arith in
    let ones : (2 ^ 64 - 1) / 2 ^ (64 - count) ≡ 2 ^ count - 1 = ones_shr 64 (64 - count) (omega arith) ∙ ap (λ (k : ℕ). 2 ^ k - 1) length in
    let below : 2 ^ count - 1 < 2 ^ count = omega (arith, pow_pos count) in
    let next : 2 ^ count - 1 + 1 ≡ 2 ^ count = omega (arith, pow_pos count) in
    let sum : first + count ≡ count + first = omega arith in
    ap (λ (k : ℕ). k * 2 ^ first % 2 ^ 64) ones
    ∙ shl_whole (2 ^ count - 1) count first 64 below (omega arith)
    ∙ less_one (2 ^ count - 1) (2 ^ first)
    ∙ ap (λ (k : ℕ). k * 2 ^ first - 2 ^ first) next
    ∙ ap (λ (k : ℕ). k - 2 ^ first) (sym (ap (λ (k : ℕ). 2 ^ k) sum ∙ pow-add 2 count first))

-- with the mask the bits of the run are set, and without it unset; the others stay
module _ (word mask lo hi k : ℕ) (bit : Bool) (run : mask ≡ 2 ^ hi - 2 ^ lo) where
  in_run : lo ≤ k → k < hi → bit_at mask k ≡ 1
  in_run after below = ap (λ (m : ℕ). bit_at m k) run ∙ bit_at_mask_inside lo hi k after below

  past_run : (k < lo) ⊎ (hi ≤ k) → bit_at mask k ≡ 0
  past_run (inl before) = ap (λ (m : ℕ). bit_at m k) run ∙ bit_at_mask_below lo hi k before
  past_run (inr after) = ap (λ (m : ℕ). bit_at m k) run ∙ bit_at_mask_above lo hi k after

  pub or_run : bit ≡ true → is_set (bit_or word mask) k ≡ cond (is_in lo hi k) bit (is_set word k)
  or_run true_is =
      let bits = bit_at_or word mask k in
      let least = bit_at-lt word k in
      elim (cases_lt k lo) [
        | inl before ↦ let off = past_run (inl before) in grind (arith, nat_tests)
        | inr after ↦ elim (cases_lt k hi) [
          | inl below ↦ let on = in_run after below in grind (arith, nat_tests)
          | inr past ↦ let off = past_run (inr past) in grind (arith, nat_tests)
        ]
      ]

  pub and_not_run : bit ≡ false → hi ≤ 64 → k < 64 → is_set (bit_and word (2 ^ 64 - 1 - mask)) k ≡ cond (is_in lo hi k) bit (is_set word k)
  and_not_run false_is within small =
      let fits : mask < 2 ^ 64 = omega (arith, run, pow_mono within, pow_pos lo) in
      let bits = bit_at_and word (2 ^ 64 - 1 - mask) k in
      let flip : bit_at (2 ^ 64 - 1 - mask) k ≡ 1 - bit_at mask k = bit_at_not w64 mask k fits small in
      let least = bit_at-lt word k in
      elim (cases_lt k lo) [
        | inl before ↦ let off = past_run (inl before) in grind (arith, nat_tests)
        | inr after ↦ elim (cases_lt k hi) [
          | inl below ↦ let on = in_run after below in grind (arith, nat_tests)
          | inr past ↦ let off = past_run (inr past) in grind (arith, nat_tests)
        ]
      ]

pub all_ones : (k : ℕ) → k < 64 → is_set (2 ^ 64 - 1) k ≡ true
all_ones k small = ap (λ (b : ℕ). eqb b 1) (bit_at_ones 64 k small)
