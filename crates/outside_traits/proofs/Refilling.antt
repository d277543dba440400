-- A read behind the bytes ahead of a reader of lines, which were moved to the front of its place.
use Rattle.std.proofs.Common.{◌≡◌, ℕ, zero, suc, ◌+◌, ◌-◌, ◌≤◌, ◌<◌, Bool, nat_eq, List, [], ◌∷◌, ◌++◌, length, take, drop, slice_range, Ok, Err, inl, inr, refl, rules, sym, ap, ◌∙◌, arith, length-drop, append-nil}
use Rattle.std.proofs.lemmas.List.{take-append-le}
use Rattle.std.proofs.Math.Seq.{take-add, take-append_seam}
use Rattle.std.proofs.KnownBytes.{Appends-nil, Consumes-nil, Appends-kept, Consumes-kept}
use Rattle.std.specs.Io.KnownBytes.{IsAtEnd}
use Rattle.outside_traits.proofs.Lying.{length-slice_range, slice_range-none}
use Rattle.outside_traits.specs.Streams.{SourceView}
use Rattle.outside_traits.specs.Lines.{LinesView, WantsMore}
use Rattle.outside_traits.specs.LinePlaces.{Lies, lines_view_of, ReadsBehind, GoesOn, ReadsMore}

-- the place behind a loan of all of it
pub refit : (old now : List ℕ) (len : ℕ) → len ≡ length old → length now ≡ length old → take len (now ++ drop (length now) old) ≡ now
refit old now len whole same = ap (λ n. take n (now ++ drop (length now) old)) (whole ∙ sym same) ∙ take-append_seam now (drop (length now) old)

-- the bytes ahead after it
ahead_after : (place now : List ℕ) (from to count : ℕ) → take (to - from) now ≡ slice_range place from to
    → slice_range now 0 (to - from + count) ≡ slice_range place from to ++ take count (drop (to - from) now)
ahead_after place now from to count kept =
    let all : to - from + count - 0 ≡ to - from + count = omega arith in
    ap (λ n. take n now) all ∙ take-add (to - from) count now ∙ ap (λ l. l ++ take count (drop (to - from) now)) kept

pub Lies-refilled : {E : Type 0} (old_source new_source : SourceView) (place now : List ℕ) (start end from to searched max count : ℕ)
    → Lies place start end from to searched max → ReadsBehind {E = E} old_source new_source place now from to (Ok count)
    → Lies now start start 0 (to - from + count) searched max
Lies-refilled old_source new_source place now start end from to searched max count lies moved =
    let size : length (slice_range place from to) ≡ to - from = length-slice_range place from to lies.ahead_within in
    let room : length (drop (to - from) now) ≡ length now - (to - from) = length-drop (to - from) now in
    record {
      line = omega arith;
      line_within = omega (arith, lies.line, lies.line_within, moved.length_same);
      ahead = omega arith;
      ahead_within = omega (arith, moved.reads.within, room, moved.length_same, lies.ahead, lies.ahead_within);
      searched_within = omega (arith, lies.searched_within, lies.ahead);
      searched_most = lies.searched_most;
      no_feed = rw (ahead_after place now from to count moved.kept)
          (rw (take-append-le searched (slice_range place from to) (take count (drop (to - from) now))
          (omega (arith, size, lies.searched_within))) lies.no_feed);
      room = omega (arith, lies.room, moved.length_same);
      fits = lies.fits;
    }

-- a read into some room gives bytes or is at the end
goes_on : (lines : LinesView) (source : SourceView) (count : ℕ) (into : List ℕ) → lines.ended ≡ nat_eq count 0 → 0 < length into → count ≤ length into
    → (count ≡ 0 → 0 < length into → IsAtEnd source.left) → GoesOn (take count into) lines source
goes_on lines source zero into ended some within at_end = inr (ended, refl, at_end refl some)
goes_on lines source (suc n) [] ended some within at_end = absurd (omega (arith, some))
goes_on lines source (suc n) (x ∷ into) ended some within at_end = inl (ended ∙ search rules, λ none. cc)

pub ReadsMore-ok : {E : Type 0} (old_source new_source : SourceView) (place now : List ℕ) (start end from to searched max count : ℕ) (ended : Bool)
    → Lies place start end from to searched max → ReadsBehind {E = E} old_source new_source place now from to (Ok count)
    → WantsMore (lines_view_of place start end from to max ended)
    → ReadsMore {E = E} old_source new_source (lines_view_of place start end from to max ended)
    (lines_view_of now start start 0 (to - from + count) max (nat_eq count 0)) (Ok tt)
ReadsMore-ok old_source new_source place now start end from to searched max count ended lies moved wants = record {
  read = take count (drop (to - from) now);
  given = moved.reads.given;
  left = moved.reads.left.0;
  ahead = ahead_after place now from to count moved.kept;
  line = slice_range-none now start;
  max = refl;
  ok = goes_on (lines_view_of now start start 0 (to - from + count) max (nat_eq count 0)) new_source count (drop (to - from) now) refl
      (omega (
        arith,
        lies.room,
        moved.length_same,
        length-drop (to - from) now,
        length-slice_range place from to lies.ahead_within,
        wants.goes_on.within,
      )) moved.reads.within moved.reads.left.1;
  failed = λ e. cc;
  faults = record { kept = moved.reads.faults.kept; one = moved.reads.faults.one };
}

pub ReadsMore-failed : {E : Type 0} (old_source new_source : SourceView) (place now : List ℕ) (start end from to max : ℕ) (ended : Bool) (e : E)
    → ReadsBehind old_source new_source place now from to (Err e)
    → ReadsMore old_source new_source (lines_view_of place start end from to max ended) (lines_view_of now start start 0 (to - from) max ended) (Err e)
ReadsMore-failed old_source new_source place now start end from to max ended e moved = record {
  read = [];
  given = Appends-kept _ _ _ [] (Appends-nil old_source.given) moved.reads.given;
  left = Consumes-kept _ _ _ [] (Consumes-nil old_source.left) moved.reads.left;
  ahead = let all : to - from - 0 ≡ to - from = omega arith in ap (λ n. take n now) all ∙ moved.kept ∙ sym (append-nil (slice_range place from to));
  line = slice_range-none now start;
  max = refl;
  ok = tt;
  failed = λ _. (refl, refl);
  faults = record { kept = moved.reads.faults.kept; one = moved.reads.faults.one };
}
