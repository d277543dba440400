-- What is seen of a source and of a sink, and what their calls do to it.
use Rattle.std.specs.Prelude.{◌≡◌, ℕ, ◌<◌, ◌≤◌, List, ◌++◌, length, take, Option, Result, IfOk, MatchResult, ◌⊎◌}
use Rattle.std.specs.Io.KnownBytes.{Appends, Consumes, IsAtEnd, ReadConsumes, WriteAppends}
use Rattle.outside_traits.specs.Faults.{CountsFault}

-- what is seen of a source: the bytes that it gave and those that are left, where it tells, and its count of faults
pub record SourceView : Type 0 where
  pub given : Option (List ℕ)
  pub left : Option (List ℕ)
  pub faults : ℕ

-- what is seen of a sink: the bytes that it holds, where it tells, and its count of faults
pub record SinkView : Type 0 where
  pub holds : Option (List ℕ)
  pub faults : ℕ

-- what a read into this place does: the bytes that it gives move from those left to those given, and it gives none
-- only at the end or into an empty place
pub record Reads {E : Type 0} (old new : SourceView) (answer : Result ℕ E) (into : List ℕ) : Type 0 where
  pub within : IfOk answer (λ n. n ≤ length into)
  pub given : WriteAppends old.given new.given answer into
  pub left : ReadConsumes old.left new.left answer into
  pub faults : CountsFault old.faults new.faults answer

-- what a write of this piece does: the sink holds the bytes that it takes, at least one of a piece that isn't empty
pub record Writes {E : Type 0} (old new : SinkView) (answer : Result ℕ E) (piece : List ℕ) : Type 0 where
  pub within : IfOk answer (λ n. n ≤ length piece)
  pub some : 0 < length piece → IfOk answer (λ n. 0 < n)
  pub holds : WriteAppends old.holds new.holds answer piece
  pub faults : CountsFault old.faults new.faults answer

-- the sink holds a front of these bytes more
abbrev pub AppendsFront : Option (List ℕ) → Option (List ℕ) → List ℕ → Type 0
AppendsFront old new bytes = (front : List ℕ) × (rest : List ℕ) × (bytes ≡ front ++ rest) × Appends old new front

-- what writing all of these bytes does: the sink holds them, or a front of them after a fault, which is the last that happened to it
pub record WritesAll {T E : Type 0} (old new : SinkView) (answer : Result T E) (bytes : List ℕ) : Type 0 where
  pub holds : MatchResult answer (λ _. Appends old.holds new.holds bytes) (λ _. AppendsFront old.holds new.holds bytes)
  pub faults : CountsFault old.faults new.faults answer

-- the source's next bytes, so many, stand at the front of this place
pub record Moves (old new : SourceView) (into : List ℕ) (n : ℕ) : Type 0 where
  pub within : n ≤ length into
  pub given : Appends old.given new.given (take n into)
  pub left : Consumes old.left new.left (take n into)

-- what reading until the place is full or the input ends does, or until a fault, behind which nothing is read
pub record Fills {E : Type 0} (old new : SourceView) (answer : Result ℕ E) (into : List ℕ) : Type 0 where
  pub moves : MatchResult answer (Moves old new into) (λ _. (n : ℕ) × Moves old new into n)
  pub full_or_end : IfOk answer (λ n. (n ≡ length into) ⊎ IsAtEnd new.left)
  pub faults : CountsFault old.faults new.faults answer
