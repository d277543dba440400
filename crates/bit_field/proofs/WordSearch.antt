-- The first place with a bit as the lowest bit of what is left of a word.
use Rattle.std.proofs.Common.{◌≡◌, inl, inr, ℕ, ◌+◌, ◌-◌, ◌*◌, ◌/◌, ◌%◌, ◌^◌, ◌<◌, ◌≤◌, Bool, true, false, not, cond, eqb}
use Rattle.std.proofs.Common.{List, length, get_or, sym, ◌∙◌, ap, subst, arith}
use Rattle.std.specs.Int.{bit_at, trailing_zeros, w64}
use Rattle.std.proofs.lemmas.Bool.{cases_lt, not-true, not-false}
use Rattle.std.proofs.lemmas.Bool.Decides.{nat_tests}
use Rattle.std.proofs.lemmas.Nat.{shr-shr, shr_le}
use Rattle.std.proofs.lemmas.Nat.Bits.{bit_at-lt, bit_at-zero, bit_at_not, bit_at_above, bit_at-trailing_zeros}
use Rattle.bit_field.specs.Places.{AllHave, IsFirst}
use Rattle.bit_field.specs.Pages.{is_set}
use Rattle.bit_field.specs.Words.{in_words}
use Rattle.bit_field.proofs.Views.{place_of_word}

-- a word's bits turned over
pub not_word : (word k : ℕ) → word < 2 ^ 64 → k < 64 → is_set (2 ^ 64 - 1 - word) k ≡ not (is_set word k)
not_word word k fits small =
    let flip : bit_at (2 ^ 64 - 1 - word) k ≡ 1 - bit_at word k = bit_at_not w64 word k fits small in
    let least = bit_at-lt word k in
    grind (arith, nat_tests)

same : (bit word test : Bool) → test ≡ cond bit word (not word) → test ≡ true → word ≡ bit
same true word test is on = sym is ∙ on
same false word test is on = not-true word (sym is ∙ on)

other : (bit word test : Bool) → test ≡ cond bit word (not word) → test ≡ false → word ≡ not bit
other true word test is off = sym is ∙ off
other false word test is off = not-false word (sym is ∙ off)

-- the rest of a word from a place on, turned so that its set bits are those that have the bit
pub record IsRest (words : List ℕ) (place at shift turned rest : ℕ) (bit : Bool) : Type 0 where
  pub starts : place ≡ 64 * at + shift
  pub within : at < length words
  pub small : shift < 64
  pub fits : turned < 2 ^ 64
  pub turns : (k : ℕ) → k < 64 → is_set turned k ≡ cond bit (is_set (get_or words at 0) k) (not (is_set (get_or words at 0) k))
  pub rests : rest ≡ turned / 2 ^ shift

module _ (words : List ℕ) (from at shift turned rest : ℕ) (bit : Bool) (left : IsRest words from at shift turned rest bit) where
  place_in : (k : ℕ) → shift + k < 64 → in_words words (from + k) ≡ is_set (get_or words at 0) (shift + k)
  place_in k lt =
      let is : from + k ≡ 64 * at + (shift + k) = omega (arith, left.starts) in
      ap (λ (place : ℕ). in_words words place) is ∙ place_of_word words at (shift + k) lt

  bit_of_rest : (k : ℕ) → bit_at rest k ≡ bit_at turned (shift + k)
  bit_of_rest k = ap (λ (n : ℕ). bit_at n k) left.rests ∙ ap (λ (n : ℕ). n % 2) (shr-shr turned shift k)

  test_of_rest : (k : ℕ) → shift + k < 64
      → is_set rest k ≡ cond bit (is_set (get_or words at 0) (shift + k)) (not (is_set (get_or words at 0) (shift + k)))
  test_of_rest k lt = ap (λ (n : ℕ). eqb n 1) (bit_of_rest k) ∙ left.turns (shift + k) lt

  place_on : (k : ℕ) → shift + k < 64 → bit_at rest k ≡ 1 → in_words words (from + k) ≡ bit
  place_on k lt on = place_in k lt ∙ same bit _ _ (test_of_rest k lt) (ap (λ (n : ℕ). eqb n 1) on)

  place_off : (k : ℕ) → shift + k < 64 → bit_at rest k ≡ 0 → in_words words (from + k) ≡ not bit
  place_off k lt off = place_in k lt ∙ other bit _ _ (test_of_rest k lt) (ap (λ (n : ℕ). eqb n 1) off)

  -- so many of the lowest bits of the rest are off
  places_off : (count : ℕ) → shift + count ≤ 64 → ((k : ℕ) → k < count → bit_at rest k ≡ 0)
      → AllHave (not bit) from (from + count) (in_words words)
  places_off count le off place ge lt =
      let k = place - from in
      let is : from + (place - from) ≡ place = omega arith in
      subst (λ (p : ℕ). in_words words p ≡ not bit) is (place_off k (omega arith) (off k (omega arith)))

  pub none_in_rest : rest ≡ 0 → AllHave (not bit) from (64 * (at + 1)) (in_words words)
  none_in_rest none =
      let end : from + (64 - shift) ≡ 64 * (at + 1) = omega (arith, left.starts, left.small) in
      subst (λ (p : ℕ). AllHave (not bit) from p (in_words words)) end
      (places_off (64 - shift) (omega (arith, left.small)) (λ k lt. ap (λ (n : ℕ). bit_at n k) none ∙ bit_at-zero k))

  pub first_in_rest : (end : ℕ) → at < end → 0 < rest → IsFirst bit from (64 * end) (in_words words) (from + trailing_zeros w64 rest)
  first_in_rest end inside_end some =
      let lowest = bit_at-trailing_zeros w64 rest some (omega (arith, left.rests, left.fits, shr_le turned shift)) in
      let zeros = trailing_zeros w64 rest in
      let inside : shift + zeros < 64 = elim (cases_lt (shift + zeros) 64) [
        | inl lt ↦ lt
        | inr past ↦ absurd (omega (arith, lowest.1, bit_of_rest zeros, bit_at_above turned 64 (shift + zeros) left.fits past))
      ] in
      record {
        start = omega arith;
        below = omega (arith, left.starts, inside_end);
        here = place_on zeros inside lowest.1;
        before = places_off zeros (omega arith) lowest.2;
      }
