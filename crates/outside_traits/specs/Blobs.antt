-- A list of byte lists that is stored flat: the bytes of all, joined, and where each list ends.
use Rattle.std.specs.Prelude.{◌≡◌, ℕ, zero, suc, ◌≤◌, List, [], ◌∷◌, Option, Some, None, slice_index, slice_range}

-- the lists of these bytes: the first begins at this place, and each next one where the one before it ends
abbrev pub cut_at : List ℕ → ℕ → List ℕ → List (List ℕ)
cut_at bytes from [] = []
cut_at bytes from (end ∷ ends) = slice_range bytes from end ∷ cut_at bytes end ends

-- the ends don't fall, from this place on, and the last is the total
abbrev pub Rise : ℕ → List ℕ → ℕ → Type 0
Rise from [] total = from ≡ total
Rise from (end ∷ ends) total = (from ≤ end) × Rise end ends total

-- the lists before the memory was taken are none
abbrev pub lists_of : Option (List (List ℕ)) → List (List ℕ)
lists_of None = []
lists_of (Some lists) = lists

-- where the list at a place begins
abbrev pub start_at : ℕ → List ℕ → ℕ → ℕ
start_at from ends zero = from
start_at from ends (suc place) = slice_index ends place
