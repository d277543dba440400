-- Sets of the places below a count, as the list of whether each place is in the set; of places alone this is a
-- function that gives each place its bit.
use Rattle.std.specs.Prelude.{ℕ, zero, suc, Bool, true, false, List, Option, None, Some, ◌≡◌, ◌<◌, ◌≤◌, ◌+◌, ◌&&◌, not}
use Rattle.std.specs.Prelude.{if◌then◌else◌, nat_le, nat_lt, slice_index_or}

-- whether the set has the place; it has none past its count
abbrev pub has : List Bool → ℕ → Bool
has set place = slice_index_or set place false

-- whether the place is one of from..to
abbrev pub is_in : ℕ → ℕ → ℕ → Bool
is_in from to place = nat_le from place && nat_lt place to

-- the places from..to have this bit, and every other place keeps its own
abbrev pub SetsRange : Bool → ℕ → ℕ → (ℕ → Bool) → (ℕ → Bool) → Type 0
SetsRange bit from to old new = (place : ℕ) → new place ≡ (if is_in from to place then bit else old place)

-- each of the places from..to has this bit
abbrev pub AllHave : Bool → ℕ → ℕ → (ℕ → Bool) → Type 0
AllHave bit from to bits = (place : ℕ) → from ≤ place → place < to → bits place ≡ bit

-- the place is the first of from..to that has this bit
pub record IsFirst (bit : Bool) (from to : ℕ) (bits : ℕ → Bool) (place : ℕ) : Type 0 where
  pub start : from ≤ place
  pub below : place < to
  pub here : bits place ≡ bit
  pub before : AllHave (not bit) from place bits

-- the answer is the first of the places from..to that has this bit, and None where none has it
abbrev pub Finds : Bool → ℕ → ℕ → (ℕ → Bool) → Option ℕ → Type 0
Finds bit from to bits None = AllHave (not bit) from to bits
Finds bit from to bits (Some place) = IsFirst bit from to bits place

-- a bit as a number
abbrev pub digit : Bool → ℕ
digit true = 1
digit false = 0

-- how many places below a bound have their bit set
unfoldable pub count_below : (ℕ → Bool) → ℕ → ℕ
count_below bits zero = 0
count_below bits (suc bound) = count_below bits bound + digit (bits bound)
