-- What a framer's calls make of the frames of the stream that it was fed.
use Rattle.std.proofs.Common.{◌≡◌, ℕ, ◌+◌, ◌-◌, ◌<◌, List, [], ◌∷◌, ◌++◌, length, take, drop, Some, None, Result, refl, sym, ap, ◌∙◌, arith, inl, inr, length-append}
use Rattle.std.proofs.lemmas.Bool.{cases_lt}
use Rattle.std.proofs.lemmas.List.{take_all, append-nil, take-append-drop, take-append-le, drop-drop, length-take}
use Rattle.std.proofs.Math.Seq.{take-append_seam, drop-append_seam, take-append-add}
use Rattle.wire_frames.specs.declared.limits.TheConstants.{LENGTH_BYTES}
use Rattle.wire_frames.specs.declared.framer.FrameFault.{FrameFault}
use Rattle.wire_frames.specs.Frames.{Front, short, frame, long, front_of, between, no_frame, all_frames, with_frame, frames_from, frames_of}
use Rattle.wire_frames.specs.Framing.{State, partial, whole, failed, FramerView, fresh_framer, fed_behind, fed_at, feed, whole_body, state_after_take, after_take, HasTaken, taken_part}
use Rattle.wire_frames.proofs.FrameLemmas.{Cut-front, front_of-Cut, frames_at, frames_at-short, frames_at-frame, frames_at-long, left_of-end_of, and_then, continued-end_of, frames_at-append, ends_short}

pub HasTaken-fresh : HasTaken [] [] fresh_framer
unfolding frames_from
HasTaken-fresh = record { frames = refl; counts = refl }

-- a frame ends within a piece: some of the piece's bytes belong to it, and the others come behind it
pub record EndsFrame (kept piece body rest : List ℕ) : Type 0 where
  pub some : length rest < length piece
  pub front : front_of (kept ++ take (length piece - length rest) piece) ≡ frame body []
  pub back : drop (length piece - length rest) piece ≡ rest

pub ends_frame : (kept piece body rest : List ℕ) → front_of kept ≡ short → front_of (kept ++ piece) ≡ frame body rest → EndsFrame kept piece body rest
ends_frame kept piece body rest unfinished is =
    let cut = Cut-front (kept ++ piece) body rest is in
    let two : List ℕ = cut.low ∷ cut.middle ∷ cut.high ∷ body in
    let len : length kept + length piece ≡ length two + length rest =
    sym (length-append kept piece) ∙ ap length cut.parts ∙ length-append two rest in
    let some : length rest < length piece = elim (cases_lt (length rest) (length piece)) [
      | inl less ↦ less
      | inr more ↦
          let whole : take (length two) kept ≡ two =
          sym (take-append-le (length two) kept piece (omega arith)) ∙ ap (take (length two)) cut.parts ∙ take-append_seam two rest in
          let parts : kept ≡ two ++ drop (length two) kept = sym (rw whole at (take-append-drop (length two) kept)) in
          let again = front_of-Cut kept body (drop (length two) kept)
          (record { low = cut.low; middle = cut.middle; high = cut.high; parts = parts; size = cut.size; fits = cut.fits }) in
          cc
    ] in
    let n : ℕ = length piece - length rest in
    let size : length two ≡ length kept + n = omega arith in
    let front : kept ++ take n piece ≡ two ++ [] =
    sym (take-append-add kept piece n) ∙ ap (λ k. take k (kept ++ piece)) (sym size) ∙ ap (take (length two)) cut.parts
    ∙ take-append_seam two rest ∙ sym (append-nil two) in
    let back : drop n piece ≡ rest =
    ap (drop n) (sym (drop-append_seam kept piece)) ∙ drop-drop n (length kept) (kept ++ piece)
    ∙ ap (λ k. drop k (kept ++ piece)) (sym size) ∙ ap (drop (length two)) cut.parts ∙ drop-append_seam two rest in
    record {
      some = some;
      front = front_of-Cut (kept ++ take n piece) body []
          (record { low = cut.low; middle = cut.middle; high = cut.high; parts = front; size = cut.size; fits = cut.fits });
      back = back;
    }

-- a framer that took so many bytes, in this state
abbrev pub framer_at : ℕ → State → FramerView
framer_at place state = record { place = place; state = state }

module _ (stream kept : List ℕ) (bodies : List (List ℕ)) (place : ℕ) (has : HasTaken stream bodies (framer_at place (partial kept))) where
  -- what is kept is no whole frame
  pub kept_short : front_of kept ≡ short
  kept_short = rw (has.frames, left_of-end_of kept) at (ends_short 0 stream)

  -- the frames once more bytes came, by what is kept
  frames_after : (more : List ℕ) → frames_of (stream ++ more) ≡ and_then bodies (frames_at (place - length kept) (kept ++ more))
  frames_after more =
      let count : 0 + length stream ≡ place = omega (arith, has.counts) in
      rw (has.frames, count, continued-end_of bodies kept more place) at (frames_at-append more 0 stream)

  -- a piece that ends no frame
  pub took_short : (piece : List ℕ) → front_of (kept ++ piece) ≡ short
      → HasTaken (stream ++ piece) bodies (framer_at (place + length piece) (partial (kept ++ piece)))
  took_short piece is = record {
    frames = frames_after piece ∙ rw (frames_at-short (place - length kept) (kept ++ piece) is, append-nil bodies) refl;
    counts = omega (arith, has.counts, length-append stream piece);
  }

  -- a piece that ends a frame
  pub took_frame : (piece body rest : List ℕ) → front_of (kept ++ piece) ≡ frame body rest
      → let n = length piece - length rest in
      HasTaken (stream ++ take n piece) bodies (framer_at (place + n) (whole body))
  took_frame piece body rest is =
      let n : ℕ = length piece - length rest in
      let at : ℕ = place - length kept in
      let front = (ends_frame kept piece body rest kept_short is).front in
      let one : frames_at at (kept ++ take n piece) ≡ with_frame body (no_frame between) =
      frames_at-frame at (kept ++ take n piece) body [] front ∙ ap (with_frame body) (frames_at-short (at + (LENGTH_BYTES + length body)) [] refl) in
      record {
        frames = frames_after (take n piece) ∙ ap (and_then bodies) one;
        counts = omega (arith, has.counts, length-append stream (take n piece), length-take n piece);
      }

  -- a piece behind which the length is above the limit
  pub took_long : (piece : List ℕ) → front_of (kept ++ piece) ≡ long → HasTaken (stream ++ piece) bodies (framer_at place (failed (place - length kept)))
  took_long piece is = record {
    frames = frames_after piece ∙ rw (frames_at-long (place - length kept) (kept ++ piece) is, append-nil bodies) refl;
    counts = tt;
  }

  goes_on_by : (front : Front) (piece : List ℕ) → front_of (kept ++ piece) ≡ front
      → let fed = fed_behind (framer_at place (partial kept)) kept piece front in
      HasTaken (stream ++ taken_part fed.answer piece) bodies fed.framer
  goes_on_by short piece is = rw (take_all (length piece) piece (omega arith)) (took_short piece is)
  goes_on_by (frame body rest) piece is = took_frame piece body rest is
  goes_on_by long piece is = took_long piece is

-- a piece that comes after a fault
pub took_failed : (stream piece : List ℕ) (bodies : List (List ℕ)) (place at : ℕ) → HasTaken stream bodies (framer_at place (failed at))
    → HasTaken (stream ++ piece) bodies (framer_at place (failed at))
took_failed stream piece bodies place at has = record { frames = rw has.frames at (frames_at-append piece 0 stream); counts = tt }

feed_by : (state : State) (place : ℕ) (stream piece : List ℕ) (bodies : List (List ℕ)) → HasTaken stream bodies (framer_at place state)
    → let fed = fed_at state (framer_at place state) piece in
    HasTaken (stream ++ taken_part fed.answer piece) bodies fed.framer
feed_by (partial kept) place stream piece bodies has = goes_on_by stream kept bodies place has (front_of (kept ++ piece)) piece refl
feed_by (whole body) place stream piece bodies has = rw (append-nil stream) has
feed_by (failed at) place stream piece bodies has = took_failed stream piece bodies place at has

take_by : (state : State) (place : ℕ) (stream body : List ℕ) (bodies : List (List ℕ)) → HasTaken stream bodies (framer_at place state)
    → whole_body state ≡ Some body → HasTaken stream (bodies ++ body ∷ []) (after_take (framer_at place state))
take_by (partial kept) place stream body bodies has is = cc
take_by (whole waiting) place stream body bodies has is =
    let same : waiting ≡ body = cc in
    record { frames = has.frames ∙ ap (λ l. all_frames (bodies ++ l ∷ [])) same; counts = has.counts }
take_by (failed at) place stream body bodies has is = cc

-- what `feed` makes of it
pub HasTaken-feed : (stream piece : List ℕ) (bodies : List (List ℕ)) (framer new : FramerView) (answer : Result ℕ FrameFault)
    → HasTaken stream bodies framer → answer ≡ (feed framer piece).answer → new ≡ (feed framer piece).framer
    → HasTaken (stream ++ taken_part answer piece) bodies new
HasTaken-feed stream piece bodies framer new answer has is new_is = rw (is, new_is) (feed_by framer.state framer.place stream piece bodies has)

-- what `take` makes of it
pub HasTaken-take : (stream body : List ℕ) (bodies : List (List ℕ)) (framer : FramerView) → HasTaken stream bodies framer
    → whole_body framer.state ≡ Some body → HasTaken stream (bodies ++ body ∷ []) (after_take framer)
HasTaken-take stream body bodies framer has is = take_by framer.state framer.place stream body bodies has is

none_by : (state : State) → whole_body (state_after_take state) ≡ None
none_by (partial kept) = refl
none_by (whole body) = refl
none_by (failed at) = refl
