-- How many places words have, word by word.
use Rattle.std.proofs.Common.{◌≡◌, ℕ, zero, suc, ◌+◌, ◌*◌, ◌%◌, ◌^◌, ◌<◌, Bool, eqb, List, length, get_or, refl, sym, ◌∙◌, ap, arith, add_comm}
use Rattle.std.specs.Int.{bit_at}
use Rattle.std.specs.Int.RustNames.{count_ones}
use Rattle.std.proofs.lemmas.Nat.{pow_pos, mod-pow-add, ones_cat, mod_below}
use Rattle.std.proofs.lemmas.Nat.Bits.{bit_at-lt}
use Rattle.std.proofs.Math.Nat.{mod-one, mod-eq_of_lt}
use Rattle.bit_field.specs.Places.{has, digit, count_below}
use Rattle.bit_field.specs.Pages.{is_set}
use Rattle.bit_field.specs.Words.{in_words}
use Rattle.bit_field.proofs.Counts.{count_below-suc, count_below-same, count_below-add, count_below-unset}
use Rattle.bit_field.proofs.Views.{place_of_word, StandFor}

ones_of_bit : (bit : ℕ) → bit < 2 → count_ones bit ≡ digit (eqb bit 1)
unfolding count_ones
ones_of_bit zero lt = refl
ones_of_bit (suc zero) lt = refl
ones_of_bit (suc (suc bit)) lt = absurd (omega arith)

-- a word's lowest bits
count_low : (word bits : ℕ) → count_below (is_set word) bits ≡ count_ones (word % 2 ^ bits)
unfolding count_below count_ones
count_low word zero = sym (ap (λ (n : ℕ). count_ones n) (mod-one word))
count_low word (suc bits) =
    let next : 1 + bits ≡ suc bits = omega arith in
    let split : word % 2 ^ suc bits ≡ bit_at word bits * 2 ^ bits + word % 2 ^ bits = ap (λ (k : ℕ). word % 2 ^ k) (sym next) ∙ mod-pow-add word 1 bits in
    let apart = ones_cat bits (bit_at word bits) (word % 2 ^ bits) (mod_below word (2 ^ bits) (pow_pos bits)) in
    let one = ones_of_bit (bit_at word bits) (bit_at-lt word bits) in
    count_below-suc (is_set word) bits
    ∙ ap (λ (n : ℕ). n + digit (is_set word bits)) (count_low word bits)
    ∙ ap (λ (n : ℕ). count_ones (word % 2 ^ bits) + n) (sym one)
    ∙ add_comm (count_ones (word % 2 ^ bits)) (count_ones (bit_at word bits))
    ∙ sym (ap (λ (n : ℕ). count_ones n) split ∙ apart)

-- a whole word more
pub count_word_more : (words : List ℕ) (at : ℕ) → get_or words at 0 < 2 ^ 64
    → count_below (in_words words) (64 * (at + 1)) ≡ count_below (in_words words) (64 * at) + count_ones (get_or words at 0)
count_word_more words at fits =
    let next : 64 * (at + 1) ≡ 64 * at + 64 = omega arith in
    ap (λ (n : ℕ). count_below (in_words words) n) next
    ∙ count_below-add (in_words words) (64 * at) 64
    ∙ ap (λ (n : ℕ). count_below (in_words words) (64 * at) + n)
    (count_below-same (λ place. in_words words (64 * at + place)) (is_set (get_or words at 0)) 64 (place_of_word words at)
    ∙ count_low (get_or words at 0) 64
    ∙ ap (λ (n : ℕ). count_ones n) (mod-eq_of_lt fits))

-- past the set's count the words have no place
pub count_of_set : (words : List ℕ) (count : ℕ) (set : List Bool) → StandFor words count set
    → count_below (in_words words) (64 * length words) ≡ count_below (has set) (length set)
count_of_set words count set stands =
    count_below-unset (in_words words) count (64 * length words) stands.room (λ place ge lt. stands.spare place ge)
    ∙ ap (λ (n : ℕ). count_below (in_words words) n) stands.places
    ∙ ap (λ (bits : ℕ → Bool). count_below bits (length set)) (sym stands.same)
