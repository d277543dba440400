-- Faults of the outside: a count that never falls, and answers that come only where it rose.
use Rattle.std.specs.Prelude.{◌≡◌, ℕ, ◌+◌, ◌-◌, ◌^◌, ◌≤◌, min, Result, IsErr, MatchResult}

-- a count that a fault was added to: it stands still at its type's end
abbrev pub count_fault : ℕ → ℕ
count_fault count = min (count + 1) (2 ^ 64 - 1)

-- the count of faults rose, which one at its type's end is taken to do with each fault
abbrev pub Rose : ℕ → ℕ → Type 0
Rose before now = count_fault before ≤ now

-- the count didn't fall, and an Err has a fault of the outside as its cause
pub record HasCause {T E : Type 0} (before now : ℕ) (answer : Result T E) : Type 0 where
  pub kept : before ≤ now
  pub rose : IsErr answer → Rose before now

-- One fault was added with an Err, and none with an Ok: a call that made another after a failed one, which may fail too, can't keep this.
-- The count didn't fall.
pub record CountsFault {T E : Type 0} (before now : ℕ) (answer : Result T E) : Type 0 where
  pub kept : before ≤ now
  pub one : MatchResult answer (λ _. now ≡ before) (λ _. now ≡ count_fault before)
