-- Writing a number's digits from the last to the first.
use Rattle.std.proofs.Common.{◌≡◌, ℕ, zero, suc, ◌+◌, ◌-◌, ◌*◌, ◌/◌, ◌%◌, ◌^◌, ◌<◌, ◌≤◌, ltb, List, [], ◌∷◌, length, set, drop, cond, refl, sym, ap, ◌∙◌, arith, drop-cons, append-nil, length-set}
use Rattle.std.specs.Fmt.{decimal}
use Rattle.std.proofs.lemmas.Bool.{lt-ltb, le-ltb}
use Rattle.std.proofs.lemmas.List.{drop_all}
use Rattle.std.proofs.lemmas.Fmt.{PrependsLastDigit, decimal_from_prepends, length-decimal-le}
use Rattle.std.proofs.Math.Seq.{drop-set-lt, get_or-set_same, lt-length-set}
use Rattle.std.proofs.Math.Nat.{pow-succ'}

-- the digits of n in front of what is written so far, at most so many
unfoldable pub put_digits : ℕ → ℕ → List ℕ → List ℕ
put_digits zero n written = written
put_digits (suc k) n written = cond (ltb n 10) ((48 + n) ∷ written) (put_digits k (n / 10) ((48 + n % 10) ∷ written))

put_digits_last : (k n : ℕ) (written : List ℕ) → n < 10 → put_digits (suc k) n written ≡ (48 + n) ∷ written
unfolding put_digits
put_digits_last k n written less = rw (lt-ltb n 10 less) refl

put_digits_more : (k n : ℕ) (written : List ℕ) → 10 ≤ n → put_digits (suc k) n written ≡ put_digits k (n / 10) ((48 + n % 10) ∷ written)
unfolding put_digits
put_digits_more k n written more = rw (le-ltb n 10 more) refl

-- the digits behind the first place are the last ones, those of the rest are still to come, and there is room for them
pub record HasDigits (number : ℕ) (place : List ℕ) (first rest : ℕ) : Type 0 where
  pub room : length place ≡ 20
  pub within : first ≤ 20
  pub some : 0 < first
  pub fits : rest < 10 ^ first
  pub digits : put_digits first rest (drop first place) ≡ decimal number

pub HasDigits-start : (number : ℕ) (place : List ℕ) → length place ≡ 20 → number < 2 ^ 64 → HasDigits number place 20 number
HasDigits-start number place room small =
    let few = length-decimal-le 20 number (omega arith) (omega arith) small in
    let prepends : PrependsLastDigit put_digits = record { one = put_digits_last; more = put_digits_more } in
    let all : put_digits 20 number [] ≡ decimal number = decimal_from_prepends put_digits prepends 20 number [] small few ∙ append-nil (decimal number) in
    record {
      room = room;
      within = omega arith;
      some = omega arith;
      fits = omega (arith, small);
      digits = ap (put_digits 20 number) (drop_all 20 place (omega (arith, room))) ∙ all;
    }

-- the place after one more digit
written : (place : List ℕ) (k digit : ℕ) → k < length place → drop k (set place k digit) ≡ digit ∷ drop (suc k) place
written place k digit within =
    drop-cons (set place k digit) k 0 (lt-length-set place k digit within)
    ∙ ap (λ x. x ∷ drop (suc k) (set place k digit)) (get_or-set_same place k digit 0 within)
    ∙ ap (λ l. digit ∷ l) (drop-set-lt (suc k) place k digit (omega arith))

pub HasDigits-more : (number : ℕ) (place : List ℕ) (first rest : ℕ) → HasDigits number place first rest → 0 < rest / 10
    → HasDigits number (set place (first - 1) (48 + rest % 10)) (first - 1) (rest / 10)
HasDigits-more number place zero rest h more = absurd (omega (arith, h.some))
HasDigits-more number place (suc k) rest h more =
    let e : suc k - 1 ≡ k = omega arith in
    let power : 10 ^ suc k ≡ 10 * 10 ^ k = pow-succ' 10 k in
    let fits : rest / 10 < 10 ^ k = omega (arith, power, h.fits) in
    let some : (j : ℕ) → rest / 10 < 10 ^ j → 0 < j = λ j. elim j as (λ i. rest / 10 < 10 ^ i → 0 < i) [ zero ↦ λ small. omega (arith, small, more) | suc i ↦ λ small. omega arith ] in
    rw e (record {
      room = length-set place k (48 + rest % 10) ∙ h.room;
      within = omega (arith, h.within);
      some = some k fits;
      fits = fits;
      digits = ap (put_digits k (rest / 10)) (written place k (48 + rest % 10) (omega (arith, h.within, h.room)))
          ∙ sym (put_digits_more k rest (drop (suc k) place) (omega (arith, more))) ∙ h.digits;
    })

pub HasDigits-last : (number : ℕ) (place : List ℕ) (first rest : ℕ) → HasDigits number place first rest → rest / 10 ≡ 0
    → drop (first - 1) (set place (first - 1) (48 + rest % 10)) ≡ decimal number
HasDigits-last number place zero rest h last = absurd (omega (arith, h.some))
HasDigits-last number place (suc k) rest h last =
    let e : suc k - 1 ≡ k = omega arith in
    let same : rest % 10 ≡ rest = omega (arith, last) in
    rw e (written place k (48 + rest % 10) (omega (arith, h.within, h.room)) ∙ ap (λ d. (48 + d) ∷ drop (suc k) place) same
    ∙ sym (put_digits_last k rest (drop (suc k) place) (omega (arith, last))) ∙ h.digits)

-- a number of 64 bits has at most twenty digits
pub digits-le : (number : ℕ) → number < 2 ^ 64 → length (decimal number) ≤ 20
digits-le number small = length-decimal-le 20 number (omega arith) (omega arith) small
