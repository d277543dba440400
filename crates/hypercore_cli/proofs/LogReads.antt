-- How a log is read from the lines of an input, call by call.
use Rattle.std.proofs.Common.{◌≡◌, ℕ, ◌≤◌, Bool, true, false, IsTrue, List, [], ◌∷◌, ◌++◌, length, Result, Ok, Err, None, Some, inl, inr, ◌⊎◌, refl, sym, ap, ◌∙◌, subst, arith, append_assoc}
use Rattle.std.proofs.KnownBytes.{Consumes-trans}
use Rattle.outside_traits.specs.Streams.{SourceView}
use Rattle.outside_traits.specs.Lines.{LinesView, lines_of, WantsMore}
use Rattle.outside_traits.specs.LineCalls.{Ends, Calls, IsWanted}
use Rattle.outside_traits.specs.declared.lines.LineFault.{LineFault}
use Rattle.outside_traits.specs.declared.lines.LineFault.TheVariants.{TooLong}
use Rattle.outside_traits.proofs.LineLemmas.{lines_of-too_long, Ends-kept}
use Rattle.outside_traits.proofs.LinesSoFar.{LinesSoFar, LinesSoFar-next, LinesSoFar-end}
use Rattle.flat_tree.specs.declared.limits.TheConstants.{MAX_BLOCK_BYTES}
use Rattle.merkle_nodes.specs.declared.limit.What.{What}
use Rattle.merkle_nodes.specs.declared.limit.What.TheVariants.{Block}
use Rattle.merkle_batch.specs.Limits.{limit_of}
use Rattle.hypercore_cli.specs.LineLimits.{limit_in}
use Rattle.hypercore_cli.specs.Proves.{PassesLimit}
use Rattle.hypercore_cli.specs.Logs.{fresh_lines, Refuses, RefusesLine, IsLogOf}
use Rattle.hypercore_cli.specs.declared.outcome.Outcome.{Outcome}
use Rattle.hypercore_cli.specs.declared.outcome.Outcome.TheVariants.{Limit, NoMemory}
use Rattle.hypercore_cli.proofs.LimitLemmas.{limit_in-block, limit_in-front}

-- so far these lines were met, and the log, whose lines pass no limit, goes on with them
pub record HasMet (first now : SourceView) (lines : LinesView) (log met : List (List ℕ)) : Type 0 where
  pub so_far : LinesSoFar first now fresh_lines lines met
  pub faults : first.faults ≤ now.faults
  pub max : lines.max ≡ MAX_BLOCK_BYTES
  pub fits : limit_in 0 0 log ≡ None

-- the log has all lines that were met
abbrev pub HasLog : SourceView → SourceView → LinesView → List (List ℕ) → Type 0
HasLog first now lines log = HasMet first now lines log log

-- one more line was met
pub HasMet-next : (first now next_source : SourceView) (lines next : LinesView) (log : List (List ℕ)) → HasLog first now lines log → Calls now next_source lines next (Ok true)
    → HasMet first next_source next log (log ++ next.line ∷ []) × (length next.line ≤ MAX_BLOCK_BYTES)
HasMet-next first now next_source lines next log has calls =
    let max : next.max ≡ MAX_BLOCK_BYTES = calls.max ∙ has.max in
    let taken = calls.lines.hands in (
      record {
        so_far = LinesSoFar-next first now next_source fresh_lines lines next log has.so_far calls;
        faults = omega (arith, has.faults, calls.cause.kept);
        max = max;
        fits = has.fits;
      },
      omega (arith, taken.within, max),
    )

-- the line was added to the log
pub HasLog-added : (first now : SourceView) (lines : LinesView) (log log_now : List (List ℕ)) → HasMet first now lines log (log ++ lines.line ∷ [])
    → (log_now ≡ log ++ lines.line ∷ []) × (limit_in 0 0 log_now ≡ None) → HasLog first now lines log_now
HasLog-added first now lines log log_now has added =
    record { so_far = subst (LinesSoFar first now fresh_lines lines) (sym added.0) has.so_far; faults = has.faults; max = has.max; fits = added.1 }

-- none is left
pub IsLogOf-end : (first now next_source : SourceView) (lines next : LinesView) (log : List (List ℕ)) → HasLog first now lines log → Calls now next_source lines next (Ok false)
    → IsLogOf first next_source log
IsLogOf-end first now next_source lines next log has calls =
    let all = LinesSoFar-end first now next_source fresh_lines lines next log has.so_far calls in
    (all.read, record { told = all.left; at_end = all.at_end; fits = ap (limit_in 0 0) (sym all.lines) ∙ has.fits }, all.lines)

-- behind an end nothing is read, and nothing follows
pub none_behind_end : (lines next : LinesView) (source : SourceView) (read left : List ℕ) → (read ≡ []) ⊎ IsWanted lines read → Ends source lines next → (IsTrue next.ended → left ≡ [])
    → IsTrue lines.ended → read ++ left ≡ []
none_behind_end lines next source read left (inl none) ends may ended = rw (none, may (ends.kept ended)) refl
none_behind_end lines next source read left (inr more) ends may ended = absurd (grind (arith, more.not_ended, ended))

-- a line too long
pub PassesLimit-too_long : (first now next_source : SourceView) (lines next : LinesView) (log : List (List ℕ)) → HasLog first now lines log
    → Calls now next_source lines next (Err TooLong) → PassesLimit first next_source Block MAX_BLOCK_BYTES
PassesLimit-too_long first now next_source lines next log has calls =
    let read = calls.lines.read in (
      has.so_far.read ++ read,
      next.ended,
      record {
        told = Consumes-trans _ _ _ has.so_far.read read has.so_far.left calls.lines.reads.left;
        at_end = Ends-kept now next_source lines next has.so_far.at_end calls.ended calls.idle;
      },
      λ left may.
          let begins = lines_of-too_long (lines.ahead ++ read) left next calls.lines.hands in
          let all : lines_of ((has.so_far.read ++ read) ++ left) ≡ log ++ begins.first ∷ begins.others =
          ap lines_of (append_assoc has.so_far.read read left)
          ∙ has.so_far.lines (read ++ left) (none_behind_end lines next next_source read left calls.lines.reads.wanted calls.ended may)
          ∙ ap (λ l. log ++ lines_of l) (sym (append_assoc lines.ahead read left)) ∙ ap (λ l. log ++ l) begins.is in
          ap (limit_in 0 0) all ∙ limit_in-block log begins.first begins.others has.fits (omega (arith, begins.long, calls.max, has.max)),
    )

-- the line passes a limit
PassesLimit-met : (first now : SourceView) (lines : LinesView) (log met : List (List ℕ)) (what : What) (max : ℕ) → HasMet first now lines log met
    → limit_in 0 0 met ≡ Some (limit_of what max) → PassesLimit first now what max
PassesLimit-met first now lines log met what max has passes = (
  has.so_far.read,
  lines.ended,
  record { told = has.so_far.left; at_end = has.so_far.at_end },
  λ left may.
      ap (limit_in 0 0) (has.so_far.lines left may) ∙ limit_in-front 0 0 met (lines_of (lines.ahead ++ left)) (limit_of what max) passes,
)

-- the line is refused
pub Refuses-met : (first now : SourceView) (lines : LinesView) (log : List (List ℕ)) (outcome : Outcome) → HasMet first now lines log (log ++ lines.line ∷ [])
    → RefusesLine log lines.line outcome → Refuses first now outcome
Refuses-met first now lines log (Limit what max) has refused = PassesLimit-met first now lines log (log ++ lines.line ∷ []) what max has refused
Refuses-met first now lines log NoMemory has refused = tt
Refuses-met first now lines log outcome has refused = absurd refused
