-- Ranges of places: which places are in one, and what is found in one after another.
use Rattle.std.proofs.Common.{◌≡◌, ◌⊎◌, inl, inr, ℕ, ◌<◌, ◌≤◌, Bool, true, false, not, Option, None, Some, arith}
use Rattle.std.proofs.lemmas.Bool.{cases_lt}
use Rattle.std.proofs.lemmas.Bool.Decides.{nat_tests}
use Rattle.bit_field.specs.Places.{is_in, AllHave, IsFirst, Finds}

pub is_in_range : (from to place : ℕ) → from ≤ place → place < to → is_in from to place ≡ true
is_in_range from to place ge lt = grind (arith, nat_tests)

pub is_in_others : (from to place : ℕ) → (place < from) ⊎ (to ≤ place) → is_in from to place ≡ false
is_in_others from to place (inl lt) = grind (arith, nat_tests)
is_in_others from to place (inr ge) = grind (arith, nat_tests)

pub all_join : (bit : Bool) (from mid to : ℕ) (bits : ℕ → Bool) → AllHave bit from mid bits → AllHave bit mid to bits → AllHave bit from to bits
all_join bit from mid to bits low high place ge lt = elim (cases_lt place mid) [
  | inl below ↦ low place ge below
  | inr above ↦ high place above lt
]

-- what is found past a range that has none is found from its start
module _ (bit : Bool) (from mid to : ℕ) (bits : ℕ → Bool) (ordered : from ≤ mid) (none : AllHave (not bit) from mid bits) where
  pub first_later : (place : ℕ) → IsFirst bit mid to bits place → IsFirst bit from to bits place
  first_later place first = record {
    start = omega (arith, first.start);
    below = first.below;
    here = first.here;
    before = all_join (not bit) from mid place bits none first.before;
  }

  pub finds_later : (answer : Option ℕ) → Finds bit mid to bits answer → Finds bit from to bits answer
  finds_later None finds = all_join (not bit) from mid to bits none finds
  finds_later (Some place) finds = first_later place finds
