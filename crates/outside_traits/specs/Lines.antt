-- The lines of an input, and what a reader of lines hands out.
use Rattle.std.specs.Prelude.{◌≡◌, ◌≢◌, ℕ, ◌+◌, ◌≤◌, ◌<◌, Bool, true, false, ◌==◌, if◌then◌else◌, IsTrue, List, [], ◌∷◌, ◌++◌, length, take, All, Result, Ok, Err, ◌⊎◌}
use Rattle.std.specs.List.{onto_first}
use Rattle.outside_traits.specs.declared.lines.LineFault.{LineFault}
use Rattle.outside_traits.specs.declared.lines.LineFault.TheVariants.{Failed, TooLong}

-- the byte that ends a line
abbrev pub line_feed : ℕ
line_feed = 10

-- the lines of an input: a line feed ends a line and is dropped, and the bytes behind the last one are a line where
-- there are any
abbrev pub lines_of : List ℕ → List (List ℕ)
lines_of [] = []
lines_of (byte ∷ rest) = let lines = lines_of rest in if byte == line_feed then [] ∷ lines else onto_first byte lines

-- none of these bytes is a line feed
abbrev pub HasNoFeed : List ℕ → Type 0
HasNoFeed bytes = All (λ byte. byte ≢ line_feed) bytes

-- what is seen of a reader of lines: the line that it gave last, the bytes that it read and hasn't given out, whether
-- its source has ended, and how many bytes a line may have
pub record LinesView : Type 0 where
  pub line : List ℕ
  pub ahead : List ℕ
  pub ended : Bool
  pub max : ℕ

-- these bytes are no whole line, but may be the front of one
pub record IsOpen (max : ℕ) (bytes : List ℕ) : Type 0 where
  pub no_feed : HasNoFeed bytes
  pub within : length bytes ≤ max

-- more is to be read before there is an answer
pub record WantsMore (lines : LinesView) : Type 0 where
  pub goes_on : IsOpen lines.max lines.ahead
  pub not_ended : lines.ended ≡ false

-- all of these bytes are the last line, which no line feed ends
pub record IsLastLine (before : List ℕ) (lines : LinesView) : Type 0 where
  pub line : before ≡ lines.line
  pub some : lines.line ≢ []
  pub ahead : lines.ahead ≡ []
  pub ended : IsTrue lines.ended

-- the line at the front of these bytes was taken off
pub record TakesLine (before : List ℕ) (lines : LinesView) : Type 0 where
  pub no_feed : HasNoFeed lines.line
  pub within : length lines.line ≤ lines.max
  pub split : (before ≡ lines.line ++ line_feed ∷ lines.ahead) ⊎ IsLastLine before lines

-- none is left
pub record TakesNone (before : List ℕ) (lines : LinesView) : Type 0 where
  pub none : before ≡ []
  pub line : lines.line ≡ []
  pub ahead : lines.ahead ≡ []
  pub ended : IsTrue lines.ended

-- the line at the front of these bytes has more than it may have
pub record IsTooLong (before : List ℕ) (lines : LinesView) : Type 0 where
  pub long : lines.max < length before
  pub no_feed : HasNoFeed (take (lines.max + 1) before)
  pub line : lines.line ≡ []
  pub ahead : lines.ahead ≡ before

-- more was wanted and couldn't be read
pub record IsCutOff (before : List ℕ) (lines : LinesView) : Type 0 where
  pub wants : WantsMore lines
  pub line : lines.line ≡ []
  pub ahead : lines.ahead ≡ before

-- what an answer does with the bytes that were ahead and those that were read for it
abbrev pub HandsOut : Result Bool LineFault → List ℕ → LinesView → Type 0
HandsOut (Ok true) before lines = TakesLine before lines
HandsOut (Ok false) before lines = TakesNone before lines
HandsOut (Err TooLong) before lines = IsTooLong before lines
HandsOut (Err Failed) before lines = IsCutOff before lines
