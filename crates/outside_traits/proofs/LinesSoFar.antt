-- The lines that a loop over a reader of lines has met, and those to come.
use Rattle.std.proofs.Common.{◌≡◌, ℕ, IsTrue, List, [], ◌∷◌, ◌++◌, true, false, Ok, inl, inr, ◌⊎◌, refl, sym, ap, ◌∙◌, subst, arith, append_assoc, append-nil}
use Rattle.std.specs.Io.KnownBytes.{Appends, Consumes, IsAtEnd}
use Rattle.std.proofs.KnownBytes.{Appends-nil, Consumes-nil, Appends-trans, Consumes-trans}
use Rattle.outside_traits.specs.Streams.{SourceView}
use Rattle.outside_traits.specs.Lines.{LinesView, lines_of}
use Rattle.outside_traits.specs.LineCalls.{IsWanted, Ends, Calls, Meets, AllLines}
use Rattle.outside_traits.proofs.LineLemmas.{lines_of-taken, Ends-kept}

-- these bytes were read with no fault, these lines were met, and all lines are these and those of what is ahead and still
-- to come, which is nothing after an end
pub record LinesSoFar (first now : SourceView) (old new : LinesView) (met : List (List ℕ)) : Type 0 where
  pub read : List ℕ
  pub given : Appends first.given now.given read
  pub left : Consumes first.left now.left read
  pub lines : (more : List ℕ) → (IsTrue new.ended → more ≡ []) → lines_of (old.ahead ++ (read ++ more)) ≡ met ++ lines_of (new.ahead ++ more)
  pub at_end : IsTrue new.ended → IsAtEnd now.left
  pub same : now.faults ≡ first.faults

pub LinesSoFar-start : (source : SourceView) (lines : LinesView) → (IsTrue lines.ended → IsAtEnd source.left) → LinesSoFar source source lines lines []
LinesSoFar-start source lines at_end = record { read = []; given = Appends-nil source.given; left = Consumes-nil source.left; lines = λ more none. refl; at_end = at_end; same = refl }

-- after an end nothing is read
none_read : (lines : LinesView) (read : List ℕ) → (read ≡ []) ⊎ IsWanted lines read → IsTrue lines.ended → read ≡ []
none_read lines read (inl none) ended = none
none_read lines read (inr wanted) ended = absurd (grind (arith, wanted.not_ended, ended))

nothing_more : (lines next : LinesView) (source : SourceView) (read more : List ℕ) → (read ≡ []) ⊎ IsWanted lines read → Ends source lines next → (IsTrue next.ended → more ≡ [])
    → IsTrue lines.ended → read ++ more ≡ []
nothing_more lines next source read more wanted ends none ended = rw (none_read lines read wanted ended, none (ends.kept ended)) refl

-- one line more
pub LinesSoFar-next : (first now then_source : SourceView) (old new next : LinesView) (met : List (List ℕ)) → LinesSoFar first now old new met
    → Calls now then_source new next (Ok true) → LinesSoFar first then_source old next (met ++ next.line ∷ [])
LinesSoFar-next first now then_source old new next met so_far call =
    let read = call.lines.read in
    let reads = call.lines.reads in
    record {
      read = so_far.read ++ read;
      given = Appends-trans _ _ _ so_far.read read so_far.given reads.given;
      left = Consumes-trans _ _ _ so_far.read read so_far.left reads.left;
      lines = λ more none.
          ap (λ l. lines_of (old.ahead ++ l)) (append_assoc so_far.read read more)
          ∙ so_far.lines (read ++ more) (nothing_more new next then_source read more reads.wanted call.ended none)
          ∙ ap (λ l. met ++ lines_of l) (sym (append_assoc new.ahead read more))
          ∙ ap (λ l. met ++ l) (lines_of-taken (new.ahead ++ read) more next call.lines.hands none)
          ∙ sym (append_assoc met (next.line ∷ []) (lines_of (next.ahead ++ more)));
      at_end = Ends-kept now then_source new next so_far.at_end call.ended call.idle;
      same = call.cause.none (λ e. cc) ∙ so_far.same;
    }

-- none is left
pub LinesSoFar-end : (first now last : SourceView) (old new next : LinesView) (met : List (List ℕ)) → LinesSoFar first now old new met
    → Calls now last new next (Ok false) → AllLines first last old met
LinesSoFar-end first now last old new next met so_far call =
    let read = call.lines.read in
    let reads = call.lines.reads in
    let rest : new.ahead ++ (read ++ []) ≡ [] = ap (λ l. new.ahead ++ l) (append-nil read) ∙ call.lines.hands.none in
    record {
      read = so_far.read ++ read;
      given = Appends-trans _ _ _ so_far.read read so_far.given reads.given;
      left = Consumes-trans _ _ _ so_far.read read so_far.left reads.left;
      lines = sym (
          ap (λ l. lines_of (old.ahead ++ (so_far.read ++ l))) (sym (append-nil read))
          ∙ so_far.lines (read ++ []) (nothing_more new next last read [] reads.wanted call.ended (λ _. refl))
          ∙ ap (λ l. met ++ lines_of l) rest
          ∙ append-nil met
          );
      at_end = Ends-kept now last new next so_far.at_end call.ended call.idle call.lines.hands.ended;
      same = call.cause.none (λ e. cc) ∙ so_far.same;
    }

all_behind : (first now last : SourceView) (old new : LinesView) (before met : List (List ℕ)) → LinesSoFar first now old new before
    → Meets now new met last → AllLines first last old (before ++ met)
all_behind first now last old new before [] so_far (next, call) =
    subst (AllLines first last old) (sym (append-nil before)) (LinesSoFar-end first now last old new next before so_far call)
all_behind first now last old new before (line ∷ met) so_far (mid, next, is, call, rest) =
    subst (AllLines first last old) (append_assoc before (line ∷ []) met) (all_behind first mid last old next (before ++ line ∷ []) met
    (subst (λ l. LinesSoFar first mid old next (before ++ l ∷ [])) is (LinesSoFar-next first now mid old new next before so_far call)) rest)

-- the lines that calls give in turn are all lines
pub Meets-all : (source last : SourceView) (lines : LinesView) (met : List (List ℕ)) → (IsTrue lines.ended → IsAtEnd source.left) → Meets source lines met last
    → AllLines source last lines met
Meets-all source last lines met at_end meets = all_behind source source last lines lines [] met (LinesSoFar-start source lines at_end) meets
