-- How the lines of an input are met, call by call.
use Rattle.std.proofs.Common.{◌≡◌, ℕ, ◌≤◌, Bool, true, false, List, [], ◌∷◌, ◌++◌, length, Result, Ok, sym, ap, ◌∙◌, subst, arith, append_assoc}
use Rattle.std.specs.Prelude.{IsTrue}
use Rattle.std.specs.List.{AllByRecursion}
use Rattle.std.proofs.KnownBytes.{Consumes-trans}
use Rattle.outside_traits.specs.Streams.{SourceView}
use Rattle.outside_traits.specs.Lines.{LinesView, lines_of}
use Rattle.outside_traits.specs.LineCalls.{Calls}
use Rattle.outside_traits.specs.declared.lines.LineFault.{LineFault}
use Rattle.outside_traits.proofs.LineLemmas.{Ends-kept}
use Rattle.outside_traits.proofs.LinesSoFar.{LinesSoFar, LinesSoFar-start, LinesSoFar-next, LinesSoFar-end}
use Rattle.flat_tree.specs.declared.limits.TheConstants.{MAX_BLOCK_BYTES}
use Rattle.merkle_batch.specs.Honest.{BlockFits}
use Rattle.hypercore_cli.specs.Logs.{fresh_lines}
use Rattle.hypercore_cli.specs.Proves.{HasTaken}
use Rattle.hypercore_cli.specs.Appends.{AreFirst, HasMet, ReadsAll}
use Rattle.hypercore_cli.proofs.BatchLemmas.{HasCut, HasCut-closed, closed_first}
use Rattle.hypercore_cli.proofs.LogReads.{none_behind_end}

-- so far these lines were met, none longer than a block may be
pub record Meets (first now : SourceView) (lines : LinesView) (met : List (List ℕ)) : Type 0 where
  pub so_far : LinesSoFar first now fresh_lines lines met
  pub faults : first.faults ≤ now.faults
  pub max : lines.max ≡ MAX_BLOCK_BYTES
  pub fit : AllByRecursion BlockFits met

pub Meets-none : (source : SourceView) (lines : LinesView) → lines ≡ fresh_lines → Meets source source lines []
Meets-none source lines fresh = record {
  so_far = subst (λ (l : LinesView). LinesSoFar source source fresh_lines l []) (sym fresh) (LinesSoFar-start source fresh_lines (λ ended. cc));
  faults = omega arith;
  max = ap (λ (l : LinesView). l.max) fresh;
  fit = tt;
}

fit-push : (met : List (List ℕ)) (line : List ℕ) → AllByRecursion BlockFits met → BlockFits line → AllByRecursion BlockFits (met ++ line ∷ [])
fit-push [] line fit last = (last, tt)
fit-push (one ∷ met) line fit last = (fit.0, fit-push met line fit.1 last)

module _ (first now next_source : SourceView) (lines next : LinesView) (met : List (List ℕ)) (meets : Meets first now lines met) where
  -- one more line
  pub Meets-next : Calls now next_source lines next (Ok true) → Meets first next_source next (met ++ next.line ∷ []) × (length next.line ≤ MAX_BLOCK_BYTES)
  Meets-next calls =
      let max : next.max ≡ MAX_BLOCK_BYTES = calls.max ∙ meets.max in
      let fits : length next.line ≤ MAX_BLOCK_BYTES = omega (arith, calls.lines.hands.within, max) in (
        record {
          so_far = LinesSoFar-next first now next_source fresh_lines lines next met meets.so_far calls;
          faults = omega (arith, meets.faults, calls.cause.kept);
          max = max;
          fit = fit-push met next.line meets.fit fits;
        },
        fits,
      )

  -- none is left
  pub ReadsAll-end : Calls now next_source lines next (Ok false) → (bytes : List ℕ) × ReadsAll first next_source bytes × (met ≡ lines_of bytes)
  ReadsAll-end calls =
      let all = LinesSoFar-end first now next_source fresh_lines lines next met meets.so_far calls in
      (all.read, record { told = all.left; at_end = all.at_end; fit = subst (AllByRecursion BlockFits) all.lines meets.fit }, all.lines)

  -- what was met before a read or a line was refused, of which this is all that is ahead
  pub HasMet-refused : (answer : Result Bool LineFault) (closed : List (List (List ℕ))) (batch : List (List ℕ))
      → (calls : Calls now next_source lines next answer)
      → next.ahead ≡ lines.ahead ++ calls.lines.read → HasCut met closed batch → HasMet first next_source met next.ahead
  HasMet-refused answer closed batch calls same cut =
      let read = calls.lines.read in
      let before = meets.so_far.read in
      let all : (left : List ℕ) → (IsTrue next.ended → left ≡ []) → lines_of ((before ++ read) ++ left) ≡ met ++ lines_of (next.ahead ++ left) = λ left may.
      ap lines_of (append_assoc before read left)
      ∙ meets.so_far.lines (read ++ left) (none_behind_end lines next next_source read left calls.lines.reads.wanted calls.ended may)
      ∙ ap (λ l. met ++ lines_of l) (sym (append_assoc lines.ahead read left)) ∙ ap (λ l. met ++ lines_of (l ++ left)) (sym same) in
      record {
        bytes = before ++ read;
        ended = next.ended;
        taken = record {
          told = Consumes-trans _ _ _ before read meets.so_far.left calls.lines.reads.left;
          at_end = Ends-kept now next_source lines next meets.so_far.at_end calls.ended calls.idle;
        };
        lines = all;
        fit = meets.fit;
        closed = subst (AreFirst (before ++ read) next.ended) (sym (HasCut-closed met closed batch cut))
            (closed_first met closed batch (before ++ read) next.ahead next.ended cut all);
      }

  -- what was read so far
  pub HasTaken-now : HasTaken first now meets.so_far.read lines.ended
  HasTaken-now = record { told = meets.so_far.left; at_end = meets.so_far.at_end }

  -- the batches that are closed are the first ones
  pub AreFirst-now : (closed : List (List (List ℕ))) (batch : List (List ℕ)) → HasCut met closed batch → AreFirst meets.so_far.read lines.ended closed
  AreFirst-now closed batch cut = closed_first met closed batch meets.so_far.read lines.ahead lines.ended cut meets.so_far.lines
