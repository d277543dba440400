-- Places as bytes: how many, each of them, and each bit.
use Rattle.std.proofs.Common.{◌≡◌, ℕ, zero, suc, ◌+◌, ◌*◌, ◌/◌, ◌%◌, ◌<◌, ◌≤◌, Bool, true, false, eqb, List, [], ◌∷◌, ◌++◌, length, get_or, replicate, refl, sym, ◌∙◌, ap, arith, add-zero, zero-add}
use Rattle.std.specs.Int.{bit_at}
use Rattle.std.proofs.lemmas.Nat.Bits.{bit_at_lowest, bit_at-suc}
use Rattle.bit_field.specs.declared.page.TheConstants.{PAGE_BYTES, PAGE_PLACES}
use Rattle.bit_field.specs.Places.{digit}
use Rattle.bit_field.specs.Pages.{is_set, number_from, byte_at, bytes_from, page_of}

pub length-bytes_from : (count : ℕ) (bits : ℕ → Bool) (first : ℕ) → length (bytes_from count bits first) ≡ count
unfolding bytes_from
length-bytes_from zero bits first = refl
length-bytes_from (suc count) bits first = ap (λ (n : ℕ). suc n) (length-bytes_from count bits (first + 8))

pub get_or-bytes_from : (count : ℕ) (bits : ℕ → Bool) (first at : ℕ) → at < count → get_or (bytes_from count bits first) at 0 ≡ byte_at bits (first + 8 * at)
unfolding bytes_from
get_or-bytes_from zero bits first at lt = absurd (omega arith)
get_or-bytes_from (suc count) bits first zero lt = ap (λ (n : ℕ). byte_at bits n) (sym (add-zero first))
get_or-bytes_from (suc count) bits first (suc at) lt =
    let moved : first + 8 + 8 * at ≡ first + 8 * suc at = omega arith in
    get_or-bytes_from count bits (first + 8) at (omega arith) ∙ ap (λ (n : ℕ). byte_at bits n) moved

-- a list of such bytes
pub bytes_from-each : (bytes : List ℕ) (count : ℕ) (bits : ℕ → Bool) (first : ℕ) → length bytes ≡ count
    → ((at : ℕ) → at < count → get_or bytes at 0 ≡ byte_at bits (first + 8 * at)) → bytes ≡ bytes_from count bits first
unfolding bytes_from
bytes_from-each [] zero bits first long each = refl
bytes_from-each [] (suc count) bits first long each = absurd (omega (arith, long))
bytes_from-each (byte ∷ bytes) zero bits first long each = absurd (omega (arith, long))
bytes_from-each (byte ∷ bytes) (suc count) bits first long each =
    let here : byte ≡ byte_at bits first = each zero (omega arith) ∙ ap (λ (n : ℕ). byte_at bits n) (add-zero first) in
    let rest : bytes ≡ bytes_from count bits (first + 8) = bytes_from-each bytes count bits (first + 8) (omega (arith, long)) (λ at lt.
    let moved : first + 8 * suc at ≡ first + 8 + 8 * at = omega arith in
    each (suc at) (omega arith) ∙ ap (λ (n : ℕ). byte_at bits n) moved) in
    ap (λ (b : ℕ). b ∷ bytes) here ∙ ap (λ (bs : List ℕ). byte_at bits first ∷ bs) rest

-- the bytes of more places follow
pub bytes_from-add : (low high : ℕ) (bits : ℕ → Bool) (first : ℕ)
    → bytes_from (low + high) bits first ≡ bytes_from low bits first ++ bytes_from high bits (first + 8 * low)
unfolding bytes_from
bytes_from-add zero high bits first =
    let same : first ≡ first + 8 * 0 = omega arith in
    ap (λ (n : ℕ). bytes_from n bits first) (zero-add high) ∙ ap (λ (place : ℕ). bytes_from high bits place) same
bytes_from-add (suc low) high bits first =
    let next : suc low + high ≡ suc (low + high) = omega arith in
    let moved : first + 8 + 8 * low ≡ first + 8 * suc low = omega arith in
    ap (λ (n : ℕ). bytes_from n bits first) next
    ∙ ap (λ (bytes : List ℕ). byte_at bits first ∷ bytes) (bytes_from-add low high bits (first + 8))
    ∙ ap (λ (place : ℕ). byte_at bits first ∷ (bytes_from low bits (first + 8) ++ bytes_from high bits place)) moved

lowest_bit : (bit : Bool) (rest : ℕ) → is_set (digit bit + 2 * rest) 0 ≡ bit
lowest_bit true rest =
    let odd : bit_at (1 + 2 * rest) 0 ≡ 1 = omega (arith, bit_at_lowest (1 + 2 * rest)) in
    ap (λ (b : ℕ). eqb b 1) odd
lowest_bit false rest =
    let even : bit_at (0 + 2 * rest) 0 ≡ 0 = omega (arith, bit_at_lowest (0 + 2 * rest)) in
    ap (λ (b : ℕ). eqb b 1) even

half_of : (bit : Bool) (rest : ℕ) → (digit bit + 2 * rest) / 2 ≡ rest
half_of true rest = omega arith
half_of false rest = omega arith

-- each bit of the number is that of its place
pub is_set-number_from : (count : ℕ) (bits : ℕ → Bool) (first k : ℕ) → k < count → is_set (number_from count bits first) k ≡ bits (first + k)
unfolding number_from
is_set-number_from zero bits first k lt = absurd (omega arith)
is_set-number_from (suc count) bits first zero lt =
    lowest_bit (bits first) (number_from count bits (first + 1)) ∙ ap (λ (place : ℕ). bits place) (sym (add-zero first))
is_set-number_from (suc count) bits first (suc k) lt =
    let rest = number_from count bits (first + 1) in
    let moved : first + 1 + k ≡ first + suc k = omega arith in
    ap (λ (b : ℕ). eqb b 1) (bit_at-suc (digit (bits first) + 2 * rest) k ∙ ap (λ (n : ℕ). bit_at n k) (half_of (bits first) rest))
    ∙ is_set-number_from count bits (first + 1) k (omega arith)
    ∙ ap (λ (place : ℕ). bits place) moved

-- unset bits make bytes of 0
number_of_none : (count : ℕ) (bits : ℕ → Bool) (first : ℕ) → ((place : ℕ) → first ≤ place → bits place ≡ false) → number_from count bits first ≡ 0
unfolding number_from
number_of_none zero bits first none = refl
number_of_none (suc count) bits first none =
    let here = ap (λ (bit : Bool). digit bit) (none first (omega arith)) in
    let rest = number_of_none count bits (first + 1) (λ place ge. none place (omega arith)) in
    omega arith

pub bytes_from-unset : (count : ℕ) (bits : ℕ → Bool) (first : ℕ) → ((place : ℕ) → first ≤ place → bits place ≡ false)
    → bytes_from count bits first ≡ replicate count 0
unfolding bytes_from
bytes_from-unset zero bits first none = refl
bytes_from-unset (suc count) bits first none =
    ap (λ (byte : ℕ). byte ∷ bytes_from count bits (first + 8)) (number_of_none 8 bits first none)
    ∙ ap (λ (bytes : List ℕ). 0 ∷ bytes) (bytes_from-unset count bits (first + 8) (λ place ge. none place (omega arith)))

-- each place of a page is its bit
pub is_set-page_of : (bits : ℕ → Bool) (number place : ℕ) → place < PAGE_PLACES
    → is_set (get_or (page_of bits number) (place / 8) 0) (place % 8) ≡ bits (number * PAGE_PLACES + place)
is_set-page_of bits number place lt =
    let first = number * PAGE_PLACES in
    let whole : first + 8 * (place / 8) + place % 8 ≡ first + place = omega arith in
    ap (λ (byte : ℕ). is_set byte (place % 8)) (get_or-bytes_from PAGE_BYTES bits first (place / 8) (omega arith))
    ∙ is_set-number_from 8 bits (first + 8 * (place / 8)) (place % 8) (omega arith)
    ∙ ap (λ (p : ℕ). bits p) whole
