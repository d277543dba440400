-- What a call for the next line does to its source and to its reader.
use Rattle.std.specs.Prelude.{◌≡◌, ◌≢◌, ℕ, ◌≤◌, List, [], ◌∷◌, ◌++◌, Bool, IsTrue, true, false, Result, Ok, Err, ◌⊎◌}
use Rattle.std.specs.Io.KnownBytes.{Appends, Consumes, IsAtEnd}
use Rattle.outside_traits.specs.Faults.{count_fault}
use Rattle.outside_traits.specs.Streams.{SourceView}
use Rattle.outside_traits.specs.Lines.{LinesView, IsOpen, WantsMore, HandsOut, lines_of}
use Rattle.outside_traits.specs.declared.lines.LineFault.{LineFault}
use Rattle.outside_traits.specs.declared.lines.LineFault.TheVariants.{Failed}

-- these bytes were read where the source hadn't ended, and the last piece of them where all bytes before it were still
-- the front of a line
pub record IsWanted (lines : LinesView) (read : List ℕ) : Type 0 where
  pub front : List ℕ
  pub piece : List ℕ
  pub parts : read ≡ front ++ piece
  pub goes_on : IsOpen lines.max (lines.ahead ++ front)
  pub not_ended : lines.ended ≡ false

-- bytes move from the source to those ahead, in order
pub record ReadsAhead (old_source new_source : SourceView) (old : LinesView) (read : List ℕ) : Type 0 where
  pub given : Appends old_source.given new_source.given read
  pub left : Consumes old_source.left new_source.left read
  pub wanted : (read ≡ []) ⊎ IsWanted old read

-- some bytes are read, and the answer takes off the line at the front of all that is ahead then
pub record NextLine (old_source new_source : SourceView) (old new : LinesView) (answer : Result Bool LineFault) : Type 0 where
  pub read : List ℕ
  pub reads : ReadsAhead old_source new_source old read
  pub hands : HandsOut answer (old.ahead ++ read) new

-- an end is kept, and a new one is that of the source
pub record Ends (new_source : SourceView) (old new : LinesView) : Type 0 where
  pub kept : IsTrue old.ended → IsTrue new.ended
  pub at_end : IsTrue new.ended → IsTrue old.ended ⊎ IsAtEnd new_source.left

-- one fault was added where a read failed, and none where none did; the count didn't fall
pub record CountsFaults (old_source new_source : SourceView) (answer : Result Bool LineFault) : Type 0 where
  pub kept : old_source.faults ≤ new_source.faults
  pub failed : answer ≡ Err Failed → new_source.faults ≡ count_fault old_source.faults
  pub none : answer ≢ Err Failed → new_source.faults ≡ old_source.faults

-- what a call for the next line does
pub record Calls (old_source new_source : SourceView) (old new : LinesView) (answer : Result Bool LineFault) : Type 0 where
  pub lines : NextLine old_source new_source old new answer
  pub max : new.max ≡ old.max
  pub idle : WantsMore old ⊎ (new_source ≡ old_source)
  pub ended : Ends new_source old new
  pub cause : CountsFaults old_source new_source answer

-- calls in turn give these lines, and the last one none
abbrev pub Meets : SourceView → LinesView → List (List ℕ) → SourceView → Type 0
Meets source lines [] last = (next : LinesView) × Calls source last lines next (Ok false)
Meets source lines (line ∷ met) last = (mid : SourceView) × (next : LinesView)
    × (next.line ≡ line) × Calls source mid lines next (Ok true) × Meets mid next met last

-- these are all lines of what was ahead and what was read up to the source's end, and no fault came
pub record AllLines (first last : SourceView) (old : LinesView) (met : List (List ℕ)) : Type 0 where
  pub read : List ℕ
  pub given : Appends first.given last.given read
  pub left : Consumes first.left last.left read
  pub lines : met ≡ lines_of (old.ahead ++ read)
  pub at_end : IsAtEnd last.left
  pub same : last.faults ≡ first.faults
