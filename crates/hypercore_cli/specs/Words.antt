-- The command lines that the program takes.
use Rattle.std.specs.Prelude.{ℕ, ◌&&◌, ◌||◌, ◌+◌, ◌*◌, ◌-◌, Bool, true, false, List, [], ◌∷◌, length, codes, filter, nat_le, ◌==◌, not, fold, slice_index_or}
use Rattle.std.specs.Str.{bytes_eq}
use Rattle.std.specs.List.{list_any, list_all}
use Rattle.hex.specs.Hex.{is_hex_digit}

-- what a word behind the command is: a key, a name, a number, an address, or a number of links
pub data Slot : Type 0 where
  Key : Slot
  Name : Slot
  Number : Slot
  Address : Slot
  Links : Slot

-- a command and what stands behind it
pub record Row : Type 0 where
  pub command : List ℕ
  pub slots : List Slot

-- a row of the table
abbrev pub row : List ℕ → List Slot → Row
row command slots = record { command = command; slots = slots }

-- every command line that there is to be
abbrev pub rows : List Row
rows =
    row (codes "check") (Key ∷ [])
    ∷ row (codes "prove") (Key ∷ Number ∷ [])
    ∷ row (codes "init") (Key ∷ Name ∷ [])
    ∷ row (codes "append") (Key ∷ Name ∷ [])
    ∷ row (codes "get") (Key ∷ Name ∷ Number ∷ [])
    ∷ row (codes "info") (Key ∷ Name ∷ [])
    ∷ row (codes "truncate") (Key ∷ Name ∷ Number ∷ [])
    ∷ row (codes "clear") (Key ∷ Name ∷ Number ∷ Number ∷ [])
    ∷ row (codes "seek") (Key ∷ Name ∷ Number ∷ [])
    ∷ row (codes "list") (Key ∷ [])
    ∷ row (codes "audit") (Key ∷ Name ∷ [])
    ∷ row (codes "gen") (Key ∷ Number ∷ [])
    ∷ row (codes "fetch") (Key ∷ Name ∷ Address ∷ Number ∷ Number ∷ [])
    ∷ row (codes "serve") (Key ∷ Name ∷ Address ∷ Links ∷ []) ∷ []

-- the commands that are built so far
abbrev pub is_built : Row → Bool
is_built r = bytes_eq r.command (codes "check") || bytes_eq r.command (codes "prove")
    || bytes_eq r.command (codes "init") || bytes_eq r.command (codes "append") || bytes_eq r.command (codes "get")

-- a decimal digit
abbrev pub is_digit : ℕ → Bool
is_digit c = nat_le 48 c && nat_le c 57

-- one to eighteen decimal digits without a leading zero, other than 0 itself
abbrev pub is_number : List ℕ → Bool
is_number [] = false
is_number (c ∷ cs) = list_all is_digit (c ∷ cs) && nat_le (length (c ∷ cs)) 18 && (not (c == 48) || (length cs == 0))

-- the number that decimal digits stand for
abbrev pub number_of : List ℕ → ℕ
number_of word = fold (λ n c. 10 * n + (c - 48)) 0 word

-- a word that can stand in a place
abbrev pub fits_slot : Slot → List ℕ → Bool
fits_slot Key word = (length word == 64) && list_all is_hex_digit word
fits_slot Name word = nat_le (length word) 255
fits_slot Number word = is_number word
fits_slot Address word = true
fits_slot Links word = is_number word && nat_le 1 (number_of word) && nat_le (number_of word) 256

-- no word is empty or begins with a hyphen
abbrev pub is_plain : List ℕ → Bool
is_plain [] = false
is_plain (c ∷ cs) = not (c == 45)

-- each word can stand in its place
abbrev pub fits_slots : List Slot → List (List ℕ) → Bool
fits_slots [] [] = true
fits_slots [] (word ∷ words) = false
fits_slots (slot ∷ slots) [] = false
fits_slots (slot ∷ slots) (word ∷ words) = is_plain word && fits_slot slot word && fits_slots slots words

-- the words are this row's
abbrev pub is_row : List (List ℕ) → Row → Bool
is_row [] r = false
is_row (command ∷ words) r = bytes_eq command r.command && fits_slots r.slots words

-- the words are a row of the commands that are built
abbrev pub is_well_formed : List (List ℕ) → Bool
is_well_formed words = list_any (is_row words) (filter is_built rows)

-- the word at a place: the command is at 0, and the key at 1
abbrev pub word_at : ℕ → List (List ℕ) → List ℕ
word_at place words = slice_index_or words place []
