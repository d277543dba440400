-- What the toy of one thread does, and what a call of the shared toy says.
use Rattle.std.specs.Prelude.{◌≡◌, ℕ, Bool, not, ◌+◌, ◌-◌, ◌^◌, ◌≤◌, ◌==◌, ◌&&◌, nat_le, if◌then◌else◌, List, [], ◌∷◌, ◌++◌, length, All}
use Rattle.commit_book.specs.declared.commit.Commit.TheVariants.{Append as AppendCommit}
use Rattle.commit_book.specs.declared.commit.Entry.{Entry}
use Rattle.commit_book.specs.History.{Summary, Limits, PassState, IsPrefix, entry_of, made_of, HasSeen, replay, IsLegal}
use Rattle.book_trial.specs.declared.event.Event.{Event}
use Rattle.book_trial.specs.declared.event.Event.TheVariants.{Append, Look}
use Rattle.book_trial.specs.declared.event.Reply.{Reply}
use Rattle.book_trial.specs.declared.event.Reply.TheVariants.{Length, Refused, BookFull}
use Rattle.book_trial.specs.declared.toy.TheConstants.{MAX_LENGTH}

-- what a toy keeps: lengths up to MAX_LENGTH
abbrev pub toy_limits : Limits
toy_limits = record { blocks = MAX_LENGTH; fork = 0 }

-- the number of blocks may be added at this summary
abbrev pub may_append : ℕ → Summary → Bool
may_append count s = nat_le 1 count && nat_le (s.length + count) MAX_LENGTH

-- a history with no room for an entry
abbrev pub is_full : List Entry → Bool
is_full history = length history == 2 ^ 64 - 1

-- the entries that the event adds to this history, one at most
abbrev pub entries_of : Summary → Event → List Entry → List Entry
entries_of start (Append count root) before =
    if may_append count (replay start before) && not (is_full before) then entry_of (AppendCommit count) root ∷ [] else []
entries_of start Look before = []

-- what the toy answers after this history
abbrev pub reply_of : Summary → Event → List Entry → Reply
reply_of start (Append count root) before =
    if may_append count (replay start before)
    then (if is_full before then BookFull else Length ((replay start before).length + count))
    else Refused
reply_of start Look before = Length (replay start before).length

-- one call: it found a history that begins with all that the pass had seen, and is no shorter than the pass was told;
-- it added its entry, and answered as a toy of one thread would have
pub record Turned (start : Summary) (event : Event) (old new : PassState) (reply : Reply) : Type 0 where
  pub before : List Entry
  pub begins : IsPrefix old.seen before
  pub told : old.news ≤ length before
  pub seen : new.seen ≡ before ++ entries_of start event before
  pub made : new.made ≡ old.made ++ entries_of start event before
  pub answer : reply ≡ reply_of start event before
  pub legal : IsLegal toy_limits start new.seen

-- the end: one legal history of so many commits leads to this length. The passes made them, and saw beginnings of it
pub record Ended (start : Summary) (passes : List PassState) (toy_length commits : ℕ) : Type 0 where
  pub history : List Entry
  pub legal : IsLegal toy_limits start history
  pub replayed : toy_length ≡ (replay start history).length
  pub counted : commits ≡ length history
  pub made : commits ≡ made_of passes
  pub seen : All (HasSeen history) passes
