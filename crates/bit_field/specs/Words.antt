-- Places in words of 64 bits: place p is bit p % 64, from the lowest, of word p / 64.
use Rattle.std.specs.Prelude.{ℕ, Bool, false, List, ◌≡◌, ◌≤◌, ◌+◌, ◌-◌, ◌*◌, ◌/◌, ◌%◌, map, length, slice_index}
use Rattle.std.specs.List.{range_with_len}
use Rattle.bit_field.specs.declared.bits.TheConstants.{MAX_PLACES}
use Rattle.bit_field.specs.declared.page.TheConstants.{PAGE_WORDS, PAGE_PLACES}
use Rattle.bit_field.specs.Pages.{is_set}

-- whether the words have the place; they have none past their end
unfoldable pub in_words : List ℕ → ℕ → Bool
in_words words place = is_set (slice_index words (place / 64)) (place % 64)

-- the set of the words' places below a count
unfoldable pub set_of : List ℕ → ℕ → List Bool
set_of words count = map (in_words words) (range_with_len 0 count)

-- how many words the fewest pages have that have so many places
abbrev pub words_for : ℕ → ℕ
words_for count = PAGE_WORDS * ((count + (PAGE_PLACES - 1)) / PAGE_PLACES)

-- the words are those pages', and have no place from the count on
pub record IsKept (words : List ℕ) (count : ℕ) : Type 0 where
  pub within : count ≤ MAX_PLACES
  pub pages : length words ≡ words_for count
  pub spare : (place : ℕ) → count ≤ place → in_words words place ≡ false
