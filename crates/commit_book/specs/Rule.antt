-- The rule of the count word: one seat knows the whole history, which is as long as the count, and every other seat
-- knows a beginning of it.
use Rattle.std.specs.Prelude.{◌≡◌, ℕ, ◌≤◌, true, false, List, [], ◌∷◌, ◌++◌, length}
use mathlib.Core.Option.{some}
use lib.ListN.{get_elem?}
use Rattle.atomic_table.specs.Table.{State, Me, Step}
use Rattle.commit_book.specs.declared.commit.Entry.{Entry}
use Rattle.commit_book.specs.declared.law.Known.{Known}
use Rattle.commit_book.specs.Prefix.{IsPrefix}

-- the first seat of a book, which knows the whole history
abbrev pub keeper : List Entry → Known
keeper log = record { keeps = true; seen = log; guest = []; noted = 0; made = [] }

-- a beginning, the last count that was told, and the entries that were made
abbrev pub reader : List Entry → ℕ → List Entry → Known
reader seen noted made = record { keeps = false; seen = seen; guest = []; noted = noted; made = made }

-- nothing
abbrev pub nobody : Known
nobody = reader [] 0 []

-- what the first knows, with the second as its guest
abbrev pub hosting : Known → Known → Known
hosting book pass = record book { guest = pass.seen; noted = pass.noted; made = pass.made }

-- the guest with all that the book's seat knows
abbrev pub told : Known → Known
told book = reader book.seen (length book.seen) book.made

-- what the rule says of one seat
pub record Fits (seat : ℕ) (log : List Entry) (by : ℕ) (v : Known) : Type 0 where
  pub keeper : v.keeps ≡ true → (by ≡ seat) × (v.seen ≡ log)
  pub seen : IsPrefix v.seen log
  pub guest : IsPrefix v.guest log
  pub noted : v.noted ≤ length log

-- one seat knows the whole history, of which the word is the length
abbrev pub Kept : State ℕ Known → Type 0
Kept s =
    (seat : ℕ) × (log : List Entry) × (s.words ≡ length log ∷ [])
    × ((by : ℕ) (v : Known) → get_elem? s.views by ≡ some v → Fits seat log by v)

-- the guest knew a beginning of the history, and no count above its length
abbrev pub Agrees : Known → Type 0
Agrees v = IsPrefix v.guest v.seen × (v.noted ≤ length v.seen)

-- the guest's entry is the last one
abbrev pub writing : Entry → Known → Known
writing e v = record v { seen = v.seen ++ e ∷ []; made = v.made ++ e ∷ [] }

-- the entry was added to a history that agreed with the guest
abbrev pub Added : Entry → Step ℕ → Me ℕ Known → ℕ → Me ℕ Known → Type 0
Added e step v found w = (w ≡ (writing e v.0, v.1)) × Agrees v.0

-- nothing changed, and the history agrees with the guest
abbrev pub Compared : Step ℕ → Me ℕ Known → ℕ → Me ℕ Known → Type 0
Compared step v found w = (w ≡ v) × Agrees v.0

-- the count was noted, which is no less than what was seen and noted before
abbrev pub Noted : Step ℕ → Me ℕ Known → ℕ → Me ℕ Known → Type 0
Noted step v found w = (w ≡ (record v.0 { noted = found }, v.1))
    × (length v.0.seen ≤ found) × (v.0.noted ≤ found)
