-- What the seats of a book and of its passes know.
use Rattle.std.specs.Prelude.{◌≡◌, ℕ, ◌≤◌, Bool, true, false, [], length}
use Rattle.atomic_table.specs.Seated.{TableId}
use Rattle.atomic_table.specs.declared.shared.Seat.{Seat}
use Rattle.commit_book.specs.declared.law.Known.{Known}

-- a seat of this table, which has one word, with or without the whole history
pub record IsSeated (name : TableId) (all : Bool) (seat : Seat ℕ Known) : Type 0 where
  pub here : seat.table_id ≡ name
  pub one_word : name.words ≡ 1
  pub keeps : seat.me.0.keeps ≡ all
  pub bare : seat.me.1 ≡ []

-- a book's seat knows the whole history, whose length is kept and summed up, and its ledgers have as many parts as
-- it has passes
pub record IsBook (name at : TableId) (seat : Seat ℕ Known) (count total parts marks_parts passes : ℕ) : Type 0 where
  pub same : at ≡ name
  pub seated : IsSeated name true seat
  pub counted : count ≡ length seat.me.0.seen
  pub summed : total ≡ length seat.me.0.seen
  pub commits : parts ≡ passes
  pub marks : marks_parts ≡ passes

-- a pass's seat knows a beginning of the history, whose length is kept, and the pass has a part of each ledger
pub record IsPass (name at : TableId) (seat : Seat ℕ Known) (count parts amount marks_parts : ℕ) : Type 0 where
  pub same : at ≡ name
  pub seated : IsSeated name false seat
  pub counted : count ≡ length seat.me.0.seen
  pub told : count ≤ seat.me.0.noted
  pub commits : parts ≡ 1
  pub made : amount ≡ length seat.me.0.made
  pub marks : marks_parts ≡ 1

-- a table's first seat knows the empty history, and its ledgers have as many parts as it is to have passes
pub record IsLaid (at : TableId) (seat : Seat ℕ Known) (parts marks_parts passes : ℕ) : Type 0 where
  pub seated : IsSeated at true seat
  pub empty : seat.me.0.seen ≡ []
  pub commits : parts ≡ passes
  pub marks : marks_parts ≡ passes
