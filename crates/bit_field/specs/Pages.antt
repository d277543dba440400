-- Places as bytes: place p is bit p % 8, from the lowest, of byte p / 8.
use Rattle.std.specs.Prelude.{ℕ, zero, suc, Bool, List, [], ◌∷◌, ◌+◌, ◌*◌, nat_eq}
use Rattle.std.specs.Int.{bit_at}
use Rattle.bit_field.specs.declared.page.TheConstants.{PAGE_BYTES, PAGE_PLACES}
use Rattle.bit_field.specs.Places.{digit}

-- whether a number has a bit set, counted from the lowest
abbrev pub is_set : ℕ → ℕ → Bool
is_set number bit = nat_eq (bit_at number bit) 1

-- the number whose lowest bits are so many places from the first on
unfoldable pub number_from : ℕ → (ℕ → Bool) → ℕ → ℕ
number_from zero bits first = 0
number_from (suc count) bits first = digit (bits first) + 2 * number_from count bits (first + 1)

-- the byte of the eight places from the first on
abbrev pub byte_at : (ℕ → Bool) → ℕ → ℕ
byte_at bits first = number_from 8 bits first

-- so many bytes of places from the first on
unfoldable pub bytes_from : ℕ → (ℕ → Bool) → ℕ → List ℕ
bytes_from zero bits first = []
bytes_from (suc count) bits first = byte_at bits first ∷ bytes_from count bits (first + 8)

-- the bytes of a page
abbrev pub page_of : (ℕ → Bool) → ℕ → List ℕ
page_of bits number = bytes_from PAGE_BYTES bits (number * PAGE_PLACES)
