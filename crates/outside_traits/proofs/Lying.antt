-- Parts of a place, and what stands before a line feed.
use Rattle.std.proofs.Common.{◌≡◌, ◌≢◌, ℕ, suc, ◌+◌, ◌-◌, ◌≤◌, ◌<◌, false, IsTrue, List, [], ◌∷◌, ◌++◌, length, take, drop, min, slice_index, slice_range, inl, inr, sym, ap, ◌∙◌, subst, arith, add-one, take-append-drop, length-drop, drop-cons}
use Rattle.std.proofs.lemmas.List.{length-take-le, take_all, drop-take, get_or-take, get_or-drop}
use Rattle.std.proofs.lemmas.List.Elements.{All-append}
use Rattle.std.proofs.Math.Seq.{take-add, take-take, drop-drop}
use Rattle.outside_traits.specs.LinePlaces.{EndsAt}
use Rattle.outside_traits.specs.Lines.{LinesView, HasNoFeed, WantsMore, TakesLine, IsTooLong, line_feed}

pub length-slice_range : (xs : List ℕ) (from to : ℕ) → to ≤ length xs → length (slice_range xs from to) ≡ to - from
length-slice_range xs from to within = length-take-le (to - from) (drop from xs) (omega (arith, length-drop from xs, within))

-- what is behind the first n of a part
pub slice_range-drop : (xs : List ℕ) (from n to : ℕ) → from + n ≤ to → slice_range xs (from + n) to ≡ drop n (slice_range xs from to)
slice_range-drop xs from n to within =
    let rest : to - from ≡ n + (to - (from + n)) = omega (arith, within) in
    ap (take (to - (from + n))) (sym (drop-drop n from xs)) ∙ sym (drop-take n (to - (from + n)) (drop from xs))
    ∙ ap (λ k. drop n (take k (drop from xs))) (sym rest)

-- bytes without a line feed, and as many more
no_feed-joined : (bytes : List ℕ) (searched more : ℕ) → HasNoFeed (take searched bytes) → HasNoFeed (take more (drop searched bytes))
    → HasNoFeed (take (searched + more) bytes)
no_feed-joined bytes searched more front next =
    subst HasNoFeed (sym (take-add searched more bytes))
    (All-append (λ byte. byte ≢ line_feed) (take searched bytes) (take more (drop searched bytes)) front next)

-- the same of a part
pub no_feed-more : (bytes : List ℕ) (searched more end : ℕ) → HasNoFeed (take searched bytes) → more ≤ end - searched
    → HasNoFeed (take more (slice_range bytes searched end)) → HasNoFeed (take (searched + more) bytes)
no_feed-more bytes searched more end front within next =
    no_feed-joined bytes searched more front (subst HasNoFeed (take-take more (end - searched) (drop searched bytes) within) next)

-- the same of a whole piece
pub no_feed-piece : (bytes : List ℕ) (at size : ℕ) → HasNoFeed (take at bytes) → HasNoFeed (slice_range bytes at (at + size))
    → HasNoFeed (take (at + size) bytes)
no_feed-piece bytes at size front piece =
    let whole : at + size - at ≡ size = omega arith in
    no_feed-joined bytes at size front (subst (λ n. HasNoFeed (take n (drop at bytes))) whole piece)

-- a line, its line feed and what is behind them
pub split_at_feed : (bytes : List ℕ) (at : ℕ) → at < length bytes → slice_index bytes at ≡ line_feed → bytes ≡ take at bytes ++ line_feed ∷ drop (at + 1) bytes
split_at_feed bytes at within feed =
    sym (take-append-drop at bytes) ∙ ap (λ l. take at bytes ++ l) (rw add-one (drop-cons bytes at 0 within ∙ ap (λ k. k ∷ drop (suc at) bytes) feed))

-- nothing before the end is a line feed: the bytes may go on
pub wants_more : (lines : LinesView) (at : ℕ) → EndsAt lines.ahead lines.max at → at ≤ lines.max → length lines.ahead ≤ at → lines.ended ≡ false
    → WantsMore lines
wants_more lines at end most all not_ended = record {
  goes_on = record { no_feed = subst HasNoFeed (take_all at lines.ahead all) end.no_feed; within = omega (arith, most, all) };
  not_ended = not_ended;
}

-- the line before a line feed is taken off
pub takes_fed_line : (before : List ℕ) (lines : LinesView) (at : ℕ) → EndsAt before lines.max at → at ≤ lines.max → at < length before
    → lines.line ≡ take at before → lines.ahead ≡ drop (at + 1) before → TakesLine before lines
takes_fed_line before lines at end most within line ahead = record {
  no_feed = rw line end.no_feed;
  within = rw line (omega (arith, most, length-take-le at before end.within));
  split = inl (rw (line, ahead) (split_at_feed before at within (end.feed within most)));
}

-- all that is left is taken off
pub takes_last_line : (before : List ℕ) (lines : LinesView) (at : ℕ) → EndsAt before lines.max at → at ≤ lines.max → length before ≤ at → 0 < length before
    → lines.line ≡ before → lines.ahead ≡ [] → IsTrue lines.ended → TakesLine before lines
takes_last_line before lines at end most all some line ahead ended = record {
  no_feed = rw line (subst HasNoFeed (take_all at before all) end.no_feed);
  within = rw line (omega (arith, most, all));
  split = inr (record { line = sym line; some = λ none. grind (arith, none, line, some); ahead = ahead; ended = ended });
}

-- one more byte than the longest line has was searched
pub is_too_long : (before : List ℕ) (lines : LinesView) (at : ℕ) → EndsAt before lines.max at → lines.max < at → lines.line ≡ [] → lines.ahead ≡ before
    → IsTooLong before lines
is_too_long before lines at end long line ahead =
    let all : at ≡ lines.max + 1 = omega (arith, end.most, long) in
    record { long = omega (arith, end.within, long); no_feed = subst (λ n. HasNoFeed (take n before)) all end.no_feed; line = line; ahead = ahead }

pub slice_range-none : (xs : List ℕ) (at : ℕ) → slice_range xs at at ≡ []
slice_range-none xs at = let none : at - at ≡ 0 = omega arith in ap (λ n. take n (drop at xs)) none

-- what a search behind the bytes that were searched before finds
pub EndsAt-part : (bytes : List ℕ) (searched more end max : ℕ) → HasNoFeed (take searched bytes) → searched ≤ length bytes → searched ≤ max + 1
    → end ≡ min (length bytes) (max + 1)
    → more ≤ length (slice_range bytes searched end) → HasNoFeed (take more (slice_range bytes searched end))
    → (more < length (slice_range bytes searched end) → slice_index (slice_range bytes searched end) more ≡ line_feed) → EndsAt bytes max (searched + more)
EndsAt-part bytes searched more end max front within most limit part no_feed feed =
    let size : length (slice_range bytes searched end) ≡ end - searched = length-slice_range bytes searched end (omega (arith, limit)) in
    record {
      within = omega (arith, size, part, limit, within, most);
      most = omega (arith, size, part, limit, within, most);
      no_feed = no_feed-more bytes searched more end front (omega (arith, size, part)) no_feed;
      feed = λ less shorter.
          sym (get_or-drop searched bytes more 0) ∙ sym (get_or-take (end - searched) (drop searched bytes) more 0 (omega (arith, limit, less, shorter)))
          ∙ feed (omega (arith, size, limit, less, shorter));
    }
