-- What a reader of lines has ahead while it reads for the next line.
use Rattle.std.proofs.Common.{◌≡◌, ◌≢◌, ℕ, ◌+◌, ◌-◌, ◌≤◌, ◌<◌, Bool, true, false, if◌then◌else◌, IsTrue, List, [], ◌∷◌, ◌++◌, length, Result, Ok, Err, inl, inr, ◌⊎◌, refl, sym, ap, ◌∙◌, subst, arith, append_assoc, append-nil, length-append}
use Rattle.std.proofs.Math.Seq.{take-append_seam}
use Rattle.std.proofs.lemmas.List.Elements.{All-take}
use Rattle.std.specs.Io.KnownBytes.{IsAtEnd}
use Rattle.std.specs.Result.{is_err}
use Rattle.std.proofs.KnownBytes.{Appends-nil, Consumes-nil, Appends-trans, Consumes-trans}
use Rattle.outside_traits.specs.Streams.{SourceView}
use Rattle.outside_traits.specs.Lines.{LinesView, HasNoFeed, IsOpen, WantsMore, HandsOut, line_feed}
use Rattle.outside_traits.specs.LineCalls.{ReadsAhead, NextLine, Ends}
use Rattle.outside_traits.specs.LinePlaces.{ReadsMore, GoesOn}
use Rattle.outside_traits.specs.declared.lines.LineFault.{LineFault}

-- so far some bytes were read and are ahead behind the old ones
pub record HasReadAhead (old_source new_source : SourceView) (old new : LinesView) : Type 0 where
  pub read : List ℕ
  pub reads : ReadsAhead old_source new_source old read
  pub ahead : new.ahead ≡ old.ahead ++ read
  pub max : new.max ≡ old.max
  pub idle : WantsMore old ⊎ (new_source ≡ old_source)
  pub ends : Ends new_source old new

-- the same, and no fault came
pub record GoesOnReading (old_source new_source : SourceView) (old new : LinesView) : Type 0 where
  pub so_far : HasReadAhead old_source new_source old new
  pub same : new_source.faults ≡ old_source.faults

-- how many bytes at most are still to be read for this line, and one for the end
abbrev pub still_wanted : LinesView → ℕ
still_wanted lines = (lines.max + 1 - length lines.ahead) + (if lines.ended then 0 else 1)

-- all but the line is the same
pub record SameAhead (old new : LinesView) : Type 0 where
  pub ahead : new.ahead ≡ old.ahead
  pub ended : new.ended ≡ old.ended
  pub max : new.max ≡ old.max

pub HasReadAhead-start : (source : SourceView) (lines : LinesView) → HasReadAhead source source lines lines
HasReadAhead-start source lines = record {
  read = [];
  reads = record { given = Appends-nil source.given; left = Consumes-nil source.left; wanted = inl refl };
  ahead = sym (append-nil lines.ahead);
  max = refl;
  idle = inr refl;
  ends = record { kept = λ ended. ended; at_end = λ ended. inl ended };
}

-- the front of what may go on may go on
IsOpen-front : (max : ℕ) (front more : List ℕ) → IsOpen max (front ++ more) → IsOpen max front
IsOpen-front max front more goes_on = record {
  no_feed = subst HasNoFeed (take-append_seam front more) (All-take (λ byte. byte ≢ line_feed) (length front) (front ++ more) goes_on.no_feed);
  within = omega (arith, length-append front more, goes_on.within);
}

not_true : (b : Bool) → ¬ IsTrue b → b ≡ false
not_true false not = refl
not_true true not = absurd (not refl)

goes_at_end : (read : List ℕ) (lines : LinesView) (source : SourceView) → GoesOn read lines source → IsTrue lines.ended → IsAtEnd source.left
goes_at_end read lines source (inl more) ended = absurd (grind (arith, more.0, ended))
goes_at_end read lines source (inr end) ended = end.2

-- an end after a read is that of the source
end_is_new : {E : Type 0} (mid next : LinesView) (source : SourceView) (answer : Result (Unit {0}) E) {now_source : SourceView}
    → ReadsMore now_source source mid next answer
    → mid.ended ≡ false → IsTrue next.ended → IsAtEnd source.left
end_is_new mid next source (Ok u) more not_ended ended = goes_at_end more.read next source more.ok ended
end_is_new mid next source (Err e) more not_ended ended = absurd (grind (arith, not_ended, ended, (more.failed refl).1))

-- an end that isn't there now wasn't there before
not_ended_before : (source : SourceView) (old new : LinesView) → Ends source old new → new.ended ≡ false → old.ended ≡ false
not_ended_before source old new ends not_ended = not_true old.ended (λ ended. grind (arith, not_ended, ends.kept ended))

-- all bytes so far may go on
is_open_so_far : (source now_source : SourceView) (old now mid : LinesView) (so_far : HasReadAhead source now_source old now) → SameAhead now mid → WantsMore mid
    → IsOpen old.max (old.ahead ++ so_far.read)
is_open_so_far source now_source old now mid so_far same wants =
    let within : IsOpen old.max mid.ahead = subst (λ n. IsOpen n mid.ahead) (same.max ∙ so_far.max) wants.goes_on in
    subst (λ l. IsOpen old.max l) (same.ahead ∙ so_far.ahead) within

-- where more is wanted now it was wanted at first
wanted_at_first : (source now_source : SourceView) (old now mid : LinesView) → HasReadAhead source now_source old now → SameAhead now mid → WantsMore mid
    → WantsMore old
wanted_at_first source now_source old now mid so_far same wants = record {
  goes_on = IsOpen-front old.max old.ahead so_far.read (is_open_so_far source now_source old now mid so_far same wants);
  not_ended = not_ended_before now_source old now so_far.ends (sym same.ended ∙ wants.not_ended);
}

-- one more read, also one that failed
pub HasReadAhead-more : {E : Type 0} (source now_source next_source : SourceView) (old now mid next : LinesView) (answer : Result (Unit {0}) E)
    → HasReadAhead source now_source old now → SameAhead now mid → WantsMore mid → ReadsMore now_source next_source mid next answer
    → HasReadAhead source next_source old next
HasReadAhead-more source now_source next_source old now mid next answer so_far same wants more =
    let first : WantsMore old = wanted_at_first source now_source old now mid so_far same wants in
    record {
      read = so_far.read ++ more.read;
      reads = record {
        given = Appends-trans _ _ _ so_far.read more.read so_far.reads.given more.given;
        left = Consumes-trans _ _ _ so_far.read more.read so_far.reads.left more.left;
        wanted = inr (record {
          front = so_far.read;
          piece = more.read;
          parts = refl;
          goes_on = is_open_so_far source now_source old now mid so_far same wants;
          not_ended = first.not_ended;
        });
      };
      ahead = more.ahead ∙ ap (λ l. l ++ more.read) (same.ahead ∙ so_far.ahead) ∙ append_assoc old.ahead so_far.read more.read;
      max = more.max ∙ same.max ∙ so_far.max;
      idle = inl first;
      ends = record {
        kept = λ ended. grind (arith, first.not_ended, ended);
        at_end = λ ended. inr (end_is_new mid next next_source answer more wants.not_ended ended);
      };
    }

-- one more read that didn't fail
pub GoesOnReading-more : {E : Type 0} (source now_source next_source : SourceView) (old now mid next : LinesView) (answer : Result (Unit {0}) E)
    → GoesOnReading source now_source old now → SameAhead now mid → WantsMore mid → ReadsMore now_source next_source mid next answer → is_err answer ≡ false
    → GoesOnReading source next_source old next
GoesOnReading-more source now_source next_source old now mid next (Ok u) goes same wants more ok = record {
  so_far = HasReadAhead-more source now_source next_source old now mid next (Ok u) goes.so_far same wants more;
  same = more.faults.one ∙ goes.same;
}
GoesOnReading-more source now_source next_source old now mid next (Err e) goes same wants more ok = cc

less_wanted : (mid next : LinesView) (read : List ℕ) (source : SourceView) → mid.ended ≡ false → length mid.ahead ≤ mid.max
    → next.ahead ≡ mid.ahead ++ read → next.max ≡ mid.max
    → GoesOn read next source → still_wanted next < still_wanted mid
less_wanted mid next [] source not_ended within ahead same (inl more) = absurd (more.1 refl)
less_wanted mid next (x ∷ read) source not_ended within ahead same (inl more) =
    rw (ahead, same, not_ended, more.0) (omega (arith, within, length-append mid.ahead (x ∷ read)))
less_wanted mid next read source not_ended within ahead same (inr end) = rw (ahead, same, not_ended, end.0, end.1, append-nil mid.ahead) (omega arith)

-- fewer bytes are wanted after a read
pub still_wanted-less : {E : Type 0} (now_source next_source : SourceView) (now mid next : LinesView)
    → SameAhead now mid → WantsMore mid → ReadsMore {E = E} now_source next_source mid next (Ok tt) → still_wanted next < still_wanted now
still_wanted-less now_source next_source now mid next same wants more =
    let less : still_wanted next < still_wanted mid = less_wanted mid next more.read next_source wants.not_ended wants.goes_on.within more.ahead more.max
    more.ok in
    rw (← same.ahead, ← same.ended, ← same.max) less

-- what a call answers from the bytes ahead
pub NextLine-handed : (source now_source : SourceView) (old now new : LinesView) (answer : Result Bool LineFault)
    → HasReadAhead source now_source old now → HandsOut answer now.ahead new → NextLine source now_source old new answer
NextLine-handed source now_source old now new answer so_far hands = record {
  read = so_far.read;
  reads = so_far.reads;
  hands = subst (λ l. HandsOut answer l new) so_far.ahead hands;
}
