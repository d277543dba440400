-- How a reader of lines keeps its bytes in one place, and reads more.
use Rattle.std.specs.Prelude.{◌≡◌, ◌≢◌, ℕ, ◌+◌, ◌-◌, ◌^◌, ◌≤◌, ◌<◌, Bool, false, IsTrue, List, [], ◌++◌, length, take, drop, slice_index, slice_range, Result, IfOk, IsErr, ◌⊎◌}
use Rattle.std.specs.Io.KnownBytes.{Appends, Consumes, IsAtEnd}
use Rattle.outside_traits.specs.Faults.{CountsFault}
use Rattle.outside_traits.specs.Streams.{SourceView, Reads}
use Rattle.outside_traits.specs.Lines.{LinesView, HasNoFeed, line_feed}

-- what is seen of it
abbrev pub lines_view_of : List ℕ → ℕ → ℕ → ℕ → ℕ → ℕ → Bool → LinesView
lines_view_of place start end from to max ended = record { line = slice_range place start end; ahead = slice_range place from to; ended = ended; max = max }

-- the line and the bytes ahead lie within the place, which has room for the longest line and more, and so many bytes
-- ahead hold no line feed
pub record Lies (place : List ℕ) (start end from to searched max : ℕ) : Type 0 where
  pub line : start ≤ end
  pub line_within : end ≤ length place
  pub ahead : from ≤ to
  pub ahead_within : to ≤ length place
  pub searched_within : from + searched ≤ to
  pub searched_most : searched ≤ max + 1
  pub no_feed : HasNoFeed (take searched (slice_range place from to))
  pub room : max < length place
  pub fits : max + 1 < 2 ^ 64

-- of the first max + 1 bytes, those before this place hold no line feed, and one stands there or they end there
pub record EndsAt (bytes : List ℕ) (max at : ℕ) : Type 0 where
  pub within : at ≤ length bytes
  pub most : at ≤ max + 1
  pub no_feed : HasNoFeed (take at bytes)
  pub feed : at < length bytes → at ≤ max → slice_index bytes at ≡ line_feed

-- the bytes from..to of a place moved to its front, and a read behind them
pub record ReadsBehind {E : Type 0} (old_source new_source : SourceView) (old new : List ℕ) (from to : ℕ) (answer : Result ℕ E) : Type 0 where
  pub reads : Reads old_source new_source answer (drop (to - from) new)
  pub kept : take (to - from) new ≡ slice_range old from to
  pub length_same : length new ≡ length old

-- some bytes were read, or none and the source is at its end
abbrev pub GoesOn : List ℕ → LinesView → SourceView → Type 0
GoesOn read lines source = ((lines.ended ≡ false) × (read ≢ [])) ⊎ (IsTrue lines.ended × (read ≡ []) × IsAtEnd source.left)

-- what is read stands behind the bytes ahead, and the line is forgotten
pub record ReadsMore {E : Type 0} (old_source new_source : SourceView) (old new : LinesView) (answer : Result (Unit {0}) E) : Type 0 where
  pub read : List ℕ
  pub given : Appends old_source.given new_source.given read
  pub left : Consumes old_source.left new_source.left read
  pub ahead : new.ahead ≡ old.ahead ++ read
  pub line : new.line ≡ []
  pub max : new.max ≡ old.max
  pub ok : IfOk answer (λ _. GoesOn read new new_source)
  pub failed : IsErr answer → (read ≡ []) × (new.ended ≡ old.ended)
  pub faults : CountsFault old_source.faults new_source.faults answer
