-- The number that few digits stand for, read from the first to the last.
use Rattle.std.proofs.Common.{◌≡◌, ℕ, zero, suc, ◌+◌, ◌-◌, ◌^◌, ◌<◌, ◌≤◌, true, ◌&&◌, ◌||◌, not, eqb, leb, List, [], ◌∷◌, length, take, get_or, arith}
use Rattle.std.specs.List.{list_all}
use Rattle.std.proofs.lemmas.Bool.{and_parts, leb-true}
use Rattle.std.proofs.lemmas.List.Sums.{AllPass-from_list_all}
use Rattle.std.proofs.Math.Nat.{pow-succ'}
use Rattle.hypercore_cli.specs.Words.{is_digit, is_number, number_of}

-- a word of at most eighteen digits
record HasFewDigits (word : List ℕ) : Type 0 where
  few : length word ≤ 18
  low : (k : ℕ) → k < length word → 48 ≤ get_or word k 0
  high : (k : ℕ) → k < length word → get_or word k 0 ≤ 57

HasFewDigits-number : (word : List ℕ) → is_number word ≡ true → HasFewDigits word
HasFewDigits-number [] number = absurd cc
HasFewDigits-number (c ∷ cs) number =
    let front = and_parts (list_all is_digit (c ∷ cs) && leb (length (c ∷ cs)) 18) (not (eqb c 48) || eqb (length cs) 0) number in
    let parts = and_parts (list_all is_digit (c ∷ cs)) (leb (length (c ∷ cs)) 18) front.0 in
    let each = AllPass-from_list_all is_digit (c ∷ cs) parts.0 in
    record {
      few = leb-true (length (c ∷ cs)) 18 parts.1;
      low = λ k within. leb-true 48 _ (and_parts (leb 48 _) (leb _ 57) (each k 0 within)).0;
      high = λ k within. leb-true _ 57 (and_parts (leb 48 _) (leb _ 57) (each k 0 within)).1;
    }

-- the number of a word's first digits, with at most as many
pub record IsNumberSoFar (word : List ℕ) (count number : ℕ) : Type 0 where
  pub value : number ≡ number_of (take count word)
  pub small : number < 10 ^ count

power_le : (i k : ℕ) → 10 ^ i ≤ 10 ^ (i + k)
power_le i zero = let same : i + zero ≡ i = omega arith in rw same (omega arith)
power_le i (suc k) = let next : i + suc k ≡ suc (i + k) = omega arith in rw next (omega (arith, pow-succ' 10 (i + k), power_le i k))

-- a number so far has at most seventeen digits, and room for one more
pub IsNumberSoFar-room : (word : List ℕ) (count number : ℕ) → is_number word ≡ true → count < length word → IsNumberSoFar word count number
    → (number < 10 ^ 17) × (48 ≤ get_or word count 0) × (get_or word count 0 ≤ 57)
IsNumberSoFar-room word count number is within so_far =
    let digits = HasFewDigits-number word is in
    let gap : count + (17 - count) ≡ 17 = omega (arith, digits.few, within) in
    let most : 10 ^ count ≤ 10 ^ 17 = rw gap at (power_le count (17 - count)) in
    (omega (arith, most, so_far.small), digits.low count within, digits.high count within)
