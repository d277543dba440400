-- The bytes of words as those of their places.
use Rattle.std.proofs.Common.{◌≡◌, inl, inr, ℕ, zero, suc, ◌+◌, ◌-◌, ◌*◌, ◌/◌, ◌%◌, ◌^◌, ◌<◌, ◌≤◌, Bool, false, eqb, List, length, get_or, refl, sym, ◌∙◌, ap, arith, add-zero, zero-add}
use Rattle.std.specs.Int.{bit_at, to_le_bytes, bytes_low_first, w64}
use Rattle.std.specs.Int as int
use Rattle.std.proofs.lemmas.Bool.{cases_lt}
use Rattle.std.proofs.lemmas.List.{places, get_or_past}
use Rattle.std.proofs.lemmas.Nat.{mod-pow-add, pow-add, shr-shr}
use Rattle.std.proofs.lemmas.Nat.Bits.{bit_at-lt, bit_at-zero}
use Rattle.std.proofs.Math.Nat.{mod-one, div-one, pow-suc}
use borrow.Rule.Slice.PartMut.{put_mid}
use Rattle.bit_field.specs.Places.{digit}
use Rattle.bit_field.specs.Pages.{is_set, number_from, byte_at}
use Rattle.bit_field.specs.Words.{in_words}
use Rattle.bit_field.proofs.Views.{place_of_word}

digit_of_bit : (bit : ℕ) → bit < 2 → digit (eqb bit 1) ≡ bit
digit_of_bit zero lt = refl
digit_of_bit (suc zero) lt = refl
digit_of_bit (suc (suc bit)) lt = absurd (omega arith)

-- places that are those of a word's bits
number_in_word : (count : ℕ) (bits : ℕ → Bool) (first word low : ℕ) → ((k : ℕ) → k < count → bits (first + k) ≡ is_set word (low + k))
    → number_from count bits first ≡ word / 2 ^ low % 2 ^ count
unfolding number_from
number_in_word zero bits first word low same = sym (mod-one (word / 2 ^ low))
number_in_word (suc count) bits first word low same =
    let next : count + 1 ≡ suc count = omega arith in
    let split : word / 2 ^ low % 2 ^ suc count ≡ (word / 2 ^ low / 2 ^ 1 % 2 ^ count) * 2 ^ 1 + word / 2 ^ low % 2 ^ 1 =
    ap (λ (k : ℕ). word / 2 ^ low % 2 ^ k) (sym next) ∙ mod-pow-add (word / 2 ^ low) count 1 in
    let here : digit (bits first) ≡ bit_at word low =
    ap (λ (place : ℕ). digit (bits place)) (sym (add-zero first)) ∙ ap (λ (bit : Bool). digit bit) (same 0 (omega arith))
    ∙ ap (λ (k : ℕ). digit (is_set word k)) (add-zero low) ∙ digit_of_bit (bit_at word low) (bit_at-lt word low) in
    let rest : number_from count bits (first + 1) ≡ word / 2 ^ low / 2 ^ 1 % 2 ^ count =
    number_in_word count bits (first + 1) word (low + 1) (λ k lt.
    let place : first + 1 + k ≡ first + (k + 1) = omega arith in
    let bit : low + (k + 1) ≡ low + 1 + k = omega arith in
    ap (λ (p : ℕ). bits p) place ∙ same (k + 1) (omega arith) ∙ ap (λ (b : ℕ). is_set word b) bit)
    ∙ ap (λ (n : ℕ). n % 2 ^ count) (sym (shr-shr word low 1)) in
    omega (arith, split, here, rest)

pow_of_256 : (k : ℕ) → 256 ^ k ≡ 2 ^ (8 * k)
pow_of_256 zero = refl
pow_of_256 (suc k) =
    let next : 8 * k + 8 ≡ 8 * suc k = omega arith in
    pow-suc 256 k ∙ ap (λ (n : ℕ). n * 256) (pow_of_256 k) ∙ sym (pow-add 2 (8 * k) 8) ∙ ap (λ (n : ℕ). 2 ^ n) next

byte_of_word : (at word : ℕ) → int.byte_at at word ≡ word / 2 ^ (8 * at) % 2 ^ 8
byte_of_word zero word = sym (ap (λ (n : ℕ). n % 256) (div-one word))
byte_of_word (suc at) word = ap (λ (n : ℕ). word / n % 256) (pow_of_256 (suc at))

get_or-bytes_low_first : (from count word at : ℕ) → at < count → get_or (bytes_low_first from count word) at 0 ≡ int.byte_at (from + at) word
get_or-bytes_low_first from zero word at lt = absurd (omega arith)
get_or-bytes_low_first from (suc count) word zero lt = ap (λ (n : ℕ). int.byte_at n word) (sym (add-zero from))
get_or-bytes_low_first from (suc count) word (suc at) lt =
    let moved : suc from + at ≡ from + suc at = omega arith in
    get_or-bytes_low_first (suc from) count word at (omega arith) ∙ ap (λ (n : ℕ). int.byte_at n word) moved

-- a byte of a word is that of eight of its places
word_byte : (words : List ℕ) (at k : ℕ) → k < 8 → get_or (to_le_bytes w64 (get_or words at 0)) k 0 ≡ byte_at (in_words words) (64 * at + 8 * k)
word_byte words at k lt =
    get_or-bytes_low_first 0 8 (get_or words at 0) k lt
    ∙ ap (λ (n : ℕ). int.byte_at n (get_or words at 0)) (zero-add k)
    ∙ byte_of_word k (get_or words at 0)
    ∙ sym (number_in_word 8 (in_words words) (64 * at + 8 * k) (get_or words at 0) (8 * k) (λ i small.
    let place : 64 * at + 8 * k + i ≡ 64 * at + (8 * k + i) = omega arith in
    ap (λ (p : ℕ). in_words words p) place ∙ place_of_word words at (8 * k + i) (omega arith)))

-- a word more of a page
module _ (words out bytes : List ℕ) (first at : ℕ) (within : 8 * at + 8 ≤ length out) (is : bytes ≡ to_le_bytes w64 (get_or words (first + at) 0))
    (long : length bytes ≡ 8)
    (each : (k : ℕ) → k < 8 * at → get_or out k 0 ≡ byte_at (in_words words) (64 * first + 8 * k)) where
  before : (k : ℕ) → k < 8 * at → get_or (put_mid (8 * at) (8 * at + 8 - 8 * at) out bytes) k 0 ≡ get_or out k 0
  before k lt = grind (arith, places)

  inside : (k : ℕ) → 8 * at ≤ k → k < 8 * at + 8 → get_or (put_mid (8 * at) (8 * at + 8 - 8 * at) out bytes) k 0 ≡ get_or bytes (k - 8 * at) 0
  inside k ge lt = grind (arith, places)

  pub bytes_more : (k : ℕ) → k < 8 * (at + 1) → get_or (put_mid (8 * at) (8 * at + 8 - 8 * at) out bytes) k 0 ≡ byte_at (in_words words) (64 * first + 8 * k)
  bytes_more k lt = elim (cases_lt k (8 * at)) [
    | inl low ↦ before k low ∙ each k low
    | inr high ↦
        let place : 64 * (first + at) + 8 * (k - 8 * at) ≡ 64 * first + 8 * k = omega arith in
        inside k high (omega arith)
        ∙ ap (λ (bs : List ℕ). get_or bs (k - 8 * at) 0) is
        ∙ word_byte words (first + at) (k - 8 * at) (omega arith)
        ∙ ap (λ (p : ℕ). byte_at (in_words words) p) place
  ]

pub none_past : (words : List ℕ) (place : ℕ) → 64 * length words ≤ place → in_words words place ≡ false
unfolding in_words
none_past words place past =
    ap (λ (w : ℕ). is_set w (place % 64)) (get_or_past words (place / 64) 0 (omega arith)) ∙ ap (λ (b : ℕ). eqb b 1) (bit_at-zero (place % 64))
