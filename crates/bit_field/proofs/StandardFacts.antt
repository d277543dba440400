-- Worked values of the definitions, by hand.
use Rattle.std.proofs.Common.{◌≡◌, Bool, true, false, List, [], ◌∷◌, refl}
use Rattle.bit_field.specs.Places.{has, is_in, count_below}
use Rattle.bit_field.specs.Pages.{number_from, byte_at, bytes_from}
use Rattle.bit_field.specs.Words.{in_words, set_of}
use Rattle.bit_field.specs.declared.page.TheConstants.{PAGE_BYTES, PAGE_PLACES}

-- the places 0, 9 and 15 of sixteen
abbrev three_places : List Bool
three_places = true ∷ false ∷ false ∷ false ∷ false ∷ false ∷ false ∷ false ∷ false ∷ true ∷ false ∷ false ∷ false ∷ false ∷ false ∷ true ∷ []

-- the first three of any places are byte 07
byte_of_the_first_three : byte_at (is_in 0 3) 0 ≡ 0x07
unfolding number_from
byte_of_the_first_three = refl

bytes_of_three_places : bytes_from 3 (has three_places) 0 ≡ 0x01 ∷ 0x82 ∷ 0x00 ∷ []
unfolding bytes_from number_from
bytes_of_three_places = refl

count_of_three_places : (count_below (has three_places) 9 ≡ 1) × (count_below (has three_places) 10 ≡ 2) × (count_below (has three_places) 16 ≡ 3)
unfolding count_below
count_of_three_places = (refl, refl, refl)

range_of_two_places : (is_in 2 4 1 ≡ false) × (is_in 2 4 2 ≡ true) × (is_in 2 4 3 ≡ true) × (is_in 2 4 4 ≡ false)
range_of_two_places = (refl, refl, refl, refl)

set_of_one_word : set_of (0x8201 ∷ []) 16 ≡ three_places
unfolding set_of in_words
set_of_one_word = refl

-- the lowest bit of the second word is place 64
place_64 : (in_words (0 ∷ 1 ∷ []) 63 ≡ false) × (in_words (0 ∷ 1 ∷ []) 64 ≡ true) × (in_words (0 ∷ 1 ∷ []) 65 ≡ false)
unfolding in_words
place_64 = (refl, refl, refl)

-- ---- limits

page_bytes_is : PAGE_BYTES ≡ 4096
page_bytes_is = refl

page_places_is : PAGE_PLACES ≡ 32768
page_places_is = refl
