-- How a log is read from the lines of an input.
use Rattle.std.specs.Prelude.{◌≡◌, ℕ, false, List, [], ◌∷◌, ◌++◌, Result, Ok, Err, None, Some, ⊤}
use Rattle.outside_traits.specs.Faults.{Rose}
use Rattle.outside_traits.specs.Streams.{SourceView}
use Rattle.outside_traits.specs.Lines.{LinesView, lines_of}
use Rattle.flat_tree.specs.declared.limits.TheConstants.{MAX_BLOCK_BYTES}
use Rattle.merkle_batch.specs.Limits.{limit_of}
use Rattle.hypercore_cli.specs.LineLimits.{limit_in}
use Rattle.hypercore_cli.specs.Proves.{PassesLimit, ReadsLog}
use Rattle.hypercore_cli.specs.declared.outcome.Outcome.{Outcome}
use Rattle.hypercore_cli.specs.declared.outcome.Outcome.TheVariants.{ReadFault, Limit, NoMemory}

-- the reader has nothing, and a line may be as long as a block
abbrev pub fresh_lines : LinesView
fresh_lines = record { line = []; ahead = []; ended = false; max = MAX_BLOCK_BYTES }

-- how reading a log is refused
abbrev pub Refuses : SourceView → SourceView → Outcome → Type 0
Refuses input input_now ReadFault = Rose input.faults input_now.faults
Refuses input input_now (Limit what max) = PassesLimit input input_now what max
Refuses input input_now NoMemory = ⊤
Refuses input input_now outcome = ⊥

-- how a line is refused: with it the lines of the log pass a limit
abbrev pub RefusesLine : List (List ℕ) → List ℕ → Outcome → Type 0
RefusesLine log line (Limit what max) = limit_in 0 0 (log ++ line ∷ []) ≡ Some (limit_of what max)
RefusesLine log line NoMemory = ⊤
RefusesLine log line outcome = ⊥

-- the log is the lines of the whole input, which pass no limit
abbrev pub IsLogOf : SourceView → SourceView → List (List ℕ) → Type 0
IsLogOf input input_now log = (bytes : List ℕ) × ReadsLog input input_now bytes × (log ≡ lines_of bytes)

-- a line was added to the log, whose lines then pass no limit, or it was refused
abbrev pub AddsLine : List (List ℕ) → List ℕ → List (List ℕ) → Result (Unit {0}) Outcome → Type 0
AddsLine log line log_now (Ok u) = (log_now ≡ log ++ line ∷ []) × (limit_in 0 0 log_now ≡ None)
AddsLine log line log_now (Err outcome) = RefusesLine log line outcome

-- the log is read as a whole, or refused
abbrev pub ReadsTo : SourceView → SourceView → Result (List (List ℕ)) Outcome → Type 0
ReadsTo input input_now (Ok log) = IsLogOf input input_now log
ReadsTo input input_now (Err outcome) = Refuses input input_now outcome
