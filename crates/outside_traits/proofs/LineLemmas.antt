-- The lines of an input, one after the other, for the loops of those who read them.
use Rattle.std.proofs.Common.{◌≡◌, ◌≢◌, ℕ, zero, suc, ◌==◌, false, IsTrue, List, [], ◌∷◌, ◌++◌, inl, inr, ◌⊎◌, refl, sym, ap, ◌∙◌, subst, ◌+◌, ◌<◌, ◌≤◌, take, drop, length, arith, append_assoc, append-nil, take-append-drop}
use Rattle.std.specs.List.{onto_first, flat_map, AllByRecursion}
use Rattle.std.proofs.lemmas.List.{length-take-le}
use Rattle.std.specs.Io.KnownBytes.{IsAtEnd}
use Rattle.outside_traits.specs.Streams.{SourceView}
use Rattle.outside_traits.specs.Lines.{LinesView, lines_of, line_feed, HasNoFeed, IsLastLine, TakesLine, IsTooLong, WantsMore}
use Rattle.outside_traits.specs.LineCalls.{Ends}

-- a byte that is no line feed stands at the front of the first line
lines_of-byte : (byte : ℕ) (rest : List ℕ) → byte ≢ line_feed → lines_of (byte ∷ rest) ≡ onto_first byte (lines_of rest)
lines_of-byte byte rest other = let no : (byte == line_feed) ≡ false = grind (arith, other) in rw no refl

-- no line feed in the rest
rest_no_feed : (byte : ℕ) (rest : List ℕ) → HasNoFeed (byte ∷ rest) → HasNoFeed rest
rest_no_feed byte rest none = λ k d below. none (suc k) d (omega (arith, below))

-- a line feed ends the line before it
pub lines_of-feed : (line rest : List ℕ) → HasNoFeed line → lines_of (line ++ line_feed ∷ rest) ≡ line ∷ lines_of rest
lines_of-feed [] rest none = refl
lines_of-feed (byte ∷ line) rest none =
    lines_of-byte byte (line ++ line_feed ∷ rest) (none zero 0 (omega arith)) ∙ ap (onto_first byte) (lines_of-feed line rest (rest_no_feed byte line none))

-- bytes behind the last line feed are a line
pub lines_of-last : (line : List ℕ) → HasNoFeed line → line ≢ [] → lines_of line ≡ line ∷ []
lines_of-last [] none some = absurd (some refl)
lines_of-last (byte ∷ []) none some = lines_of-byte byte [] (none zero 0 (omega arith))
lines_of-last (byte ∷ (next ∷ line)) none some =
    lines_of-byte byte (next ∷ line) (none zero 0 (omega arith))
    ∙ ap (onto_first byte) (lines_of-last (next ∷ line) (rest_no_feed byte (next ∷ line) none) (λ e. cc))

-- the first of some lines begins with so many bytes or more
pub record BeginsLong (least : ℕ) (lines : List (List ℕ)) : Type 0 where
  pub first : List ℕ
  pub others : List (List ℕ)
  pub is : lines ≡ first ∷ others
  pub long : least ≤ length first

BeginsLong-onto : (byte least : ℕ) (lines : List (List ℕ)) → (least ≡ 0) ⊎ BeginsLong least lines → BeginsLong (suc least) (onto_first byte lines)
BeginsLong-onto byte least [] (inl none) = record { first = byte ∷ []; others = []; is = refl; long = omega (arith, none) }
BeginsLong-onto byte least (line ∷ lines) (inl none) = record { first = byte ∷ line; others = lines; is = refl; long = omega (arith, none) }
BeginsLong-onto byte least lines (inr begins) =
    record { first = byte ∷ begins.first; others = begins.others; is = ap (onto_first byte) begins.is; long = omega (arith, begins.long) }

begins_by : (front rest : List ℕ) → HasNoFeed front → (length front ≡ 0) ⊎ BeginsLong (length front) (lines_of (front ++ rest))
begins_by [] rest none = inl refl
begins_by (byte ∷ front) rest none =
    inr (subst (BeginsLong (suc (length front))) (sym (lines_of-byte byte (front ++ rest) (none zero 0 (omega arith))))
    (BeginsLong-onto byte (length front) (lines_of (front ++ rest)) (begins_by front rest (rest_no_feed byte front none))))

-- some bytes without a line feed begin the first line
pub lines_of-front : (front rest : List ℕ) → HasNoFeed front → 0 < length front → BeginsLong (length front) (lines_of (front ++ rest))
lines_of-front front rest none some = elim (begins_by front rest none) [ inl empty ↦ absurd (omega (arith, some, empty)) | inr begins ↦ begins ]

-- a line too long is the first of all that is ahead and left
pub lines_of-too_long : (before left : List ℕ) (lines : LinesView) → IsTooLong before lines → BeginsLong (lines.max + 1) (lines_of (before ++ left))
lines_of-too_long before left lines too_long =
    let size : length (take (lines.max + 1) before) ≡ lines.max + 1 = length-take-le (lines.max + 1) before (omega (arith, too_long.long)) in
    let whole : take (lines.max + 1) before ++ (drop (lines.max + 1) before ++ left) ≡ before ++ left =
    sym (append_assoc (take (lines.max + 1) before) (drop (lines.max + 1) before) left) ∙ ap (λ l. l ++ left) (take-append-drop (lines.max + 1) before) in
    subst (λ l. BeginsLong (lines.max + 1) (lines_of l)) whole
    (subst (λ n. BeginsLong n (lines_of (take (lines.max + 1) before ++ (drop (lines.max + 1) before ++ left)))) size
    (lines_of-front (take (lines.max + 1) before) (drop (lines.max + 1) before ++ left) too_long.no_feed (omega (arith, size))))

pub lines_of-nil : lines_of [] ≡ []
lines_of-nil = refl

-- lines without a line feed, each ended by one, are the lines of what they spell
pub lines_of-spelled : (lines : List (List ℕ)) → AllByRecursion HasNoFeed lines → lines_of (flat_map (λ line. line ++ line_feed ∷ []) lines) ≡ lines
lines_of-spelled [] none = refl
lines_of-spelled (line ∷ lines) none =
    let rest : List ℕ = flat_map (λ line. line ++ line_feed ∷ []) lines in
    ap lines_of (append_assoc line (line_feed ∷ []) rest) ∙ lines_of-feed line rest none.0 ∙ ap (λ l. line ∷ l) (lines_of-spelled lines none.1)

taken_by : (before left : List ℕ) (lines : LinesView) → HasNoFeed lines.line → (before ≡ lines.line ++ line_feed ∷ lines.ahead) ⊎ IsLastLine before lines
    → (IsTrue lines.ended → left ≡ [])
    → lines_of (before ++ left) ≡ lines.line ∷ lines_of (lines.ahead ++ left)
taken_by before left lines none (inl split) at_end =
    ap (λ l. lines_of (l ++ left)) split ∙ ap lines_of (append_assoc lines.line (line_feed ∷ lines.ahead) left)
    ∙ lines_of-feed lines.line (lines.ahead ++ left) none
taken_by before left lines none (inr last) at_end =
    rw (last.line, last.ahead, at_end last.ended, append-nil lines.line) (lines_of-last lines.line none last.some)

-- the line that was taken off is the first of all that is ahead and left, where nothing is left after an end
pub lines_of-taken : (before left : List ℕ) (lines : LinesView) → TakesLine before lines → (IsTrue lines.ended → left ≡ [])
    → lines_of (before ++ left) ≡ lines.line ∷ lines_of (lines.ahead ++ left)
lines_of-taken before left lines taken at_end = taken_by before left lines taken.no_feed taken.split at_end

still_at_end : (source next_source : SourceView) (old : LinesView) → (IsTrue old.ended → IsAtEnd source.left) → WantsMore old ⊎ (next_source ≡ source)
    → IsTrue old.ended ⊎ IsAtEnd next_source.left → IsAtEnd next_source.left
still_at_end source next_source old was idle (inr new) = new
still_at_end source next_source old was (inl wants) (inl ended) = absurd (grind (arith, wants.not_ended, ended))
still_at_end source next_source old was (inr same) (inl ended) = rw same (was ended)

-- a reader whose end is that of its source keeps it so
pub Ends-kept : (source next_source : SourceView) (old new : LinesView) → (IsTrue old.ended → IsAtEnd source.left) → Ends next_source old new
    → WantsMore old ⊎ (next_source ≡ source)
    → IsTrue new.ended → IsAtEnd next_source.left
Ends-kept source next_source old new was ends idle ended = still_at_end source next_source old was idle (ends.at_end ended)
