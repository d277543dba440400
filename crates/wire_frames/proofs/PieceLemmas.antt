-- A stream that is fed in pieces gives the frames that it has, however it was cut.
use Rattle.std.proofs.Common.{◌≡◌, None, ℕ, zero, suc, ◌+◌, ◌-◌, ◌≤◌, List, [], ◌∷◌, ◌++◌, length, take, drop, refl, sym, ap, ◌∙◌, append_assoc, arith, length-drop}
use Rattle.std.specs.List.{concat, flat_map, AllByRecursion}
use Rattle.std.proofs.lemmas.List.{append-nil, take-append-drop, nil_from_length}
use Rattle.wire_frames.specs.Frames.{frame_spelling, Front, short, frame, long, front_of, frames_of, all_frames, Fits}
use Rattle.wire_frames.specs.Framing.{State, partial, whole, failed, FramerView, fresh_framer, whole_body, HasTaken, frames_seen}
use Rattle.wire_frames.specs.Pieces.{Given, none_given, feed_piece, feed_pieces, ending_of, outcome}
use Rattle.wire_frames.proofs.TakenLemmas.{framer_at, HasTaken-fresh, HasTaken-take, took_short, took_frame, took_long, took_failed, ends_frame, kept_short}
use Rattle.wire_frames.proofs.SpellingLemmas.{frames_of-spellings}

-- what a run of calls makes of a stream whose frames were all taken
pub record Runs (stream : List ℕ) (bodies : List (List ℕ)) (given : Given) : Type 0 where
  pub taken : HasTaken stream (bodies ++ given.bodies) given.framer
  pub all : whole_body given.framer.state ≡ None

none_runs : (stream : List ℕ) (bodies : List (List ℕ)) (framer : FramerView) → HasTaken stream bodies framer → whole_body framer.state ≡ None
    → Runs stream bodies (none_given framer)
none_runs stream bodies framer has all = record { taken = rw (append-nil bodies) has; all = all }

abbrev Drives : ℕ → Type 0
Drives most = (stream piece : List ℕ) (bodies : List (List ℕ)) (framer : FramerView) → HasTaken stream bodies framer → whole_body framer.state ≡ None
    → length piece ≤ most → Runs (stream ++ piece) bodies (feed_piece most framer piece)

module _ (most place : ℕ) (stream piece : List ℕ) (bodies : List (List ℕ)) (drives : Drives most) (few : length piece ≤ suc most) where
  goes_on_by : (front : Front) (kept : List ℕ) → HasTaken stream bodies (framer_at place (partial kept)) → front_of (kept ++ piece) ≡ front
      → Runs (stream ++ piece) bodies (feed_piece (suc most) (framer_at place (partial kept)) piece)
  unfolding feed_piece
  goes_on_by short kept has is = rw (is, feed_piece) (none_runs (stream ++ piece) bodies _ (took_short stream kept bodies place has piece is) refl)
  goes_on_by (frame body rest) kept has is =
      let n : ℕ = length piece - length rest in
      let after : FramerView = framer_at (place + n) (partial []) in
      let fed = took_frame stream kept bodies place has piece body rest is in
      let given = HasTaken-take (stream ++ take n piece) body bodies (framer_at (place + n) (whole body)) fed refl in
      let some = (ends_frame kept piece body rest (kept_short stream kept bodies place has) is).some in
      let more = drives (stream ++ take n piece) (drop n piece) (bodies ++ body ∷ []) after given refl (omega (arith, some, length-drop n piece)) in
      let stream_is : stream ++ take n piece ++ drop n piece ≡ stream ++ piece =
      append_assoc stream (take n piece) (drop n piece) ∙ ap (λ l. stream ++ l) (take-append-drop n piece) in
      let bodies_are = append_assoc bodies (body ∷ []) (feed_piece most after (drop n piece)).bodies in
      rw (is, feed_piece) (record { taken = rw (stream_is, bodies_are) at more.taken; all = more.all })
  goes_on_by long kept has is = rw (is, feed_piece) (none_runs (stream ++ piece) bodies _ (took_long stream kept bodies place has piece is) refl)

  drives_by : (state : State) → HasTaken stream bodies (framer_at place state) → whole_body state ≡ None
      → Runs (stream ++ piece) bodies (feed_piece (suc most) (framer_at place state) piece)
  unfolding feed_piece
  drives_by (partial kept) has all = goes_on_by (front_of (kept ++ piece)) kept has refl
  drives_by (whole body) has all = cc
  drives_by (failed at) has all = none_runs (stream ++ piece) bodies _ (took_failed stream piece bodies place at has) refl

-- one piece
pub feed_piece-runs : (most : ℕ) → Drives most
unfolding feed_piece
feed_piece-runs zero stream piece bodies framer has all few =
    let none : piece ≡ [] = nil_from_length piece (omega arith) in
    rw (none, append-nil stream) (none_runs stream bodies framer has all)
feed_piece-runs (suc most) stream piece bodies framer has all few =
    drives_by most framer.place stream piece bodies (feed_piece-runs most) few framer.state has all

-- pieces in turn
pub feed_pieces-runs : (pieces : List (List ℕ)) (stream : List ℕ) (bodies : List (List ℕ)) (framer : FramerView)
    → HasTaken stream bodies framer → whole_body framer.state ≡ None → Runs (stream ++ concat pieces) bodies (feed_pieces framer pieces)
unfolding feed_pieces
feed_pieces-runs [] stream bodies framer has all = rw (append-nil stream) (none_runs stream bodies framer has all)
feed_pieces-runs (piece ∷ pieces) stream bodies framer has all =
    let first = feed_piece (length piece) framer piece in
    let one = feed_piece-runs (length piece) stream piece bodies framer has all (omega arith) in
    let more = feed_pieces-runs pieces (stream ++ piece) (bodies ++ first.bodies) first.framer one.taken one.all in
    record {
      taken = rw (append_assoc stream piece (concat pieces), append_assoc bodies first.bodies (feed_pieces first.framer pieces).bodies) at more.taken;
      all = more.all;
    }

-- ---- the laws

seen_taken : (bodies : List (List ℕ)) (state : State) → whole_body state ≡ None
    → frames_seen bodies state ≡ record { bodies = bodies; ending = ending_of state }
seen_taken bodies (partial kept) all = refl
seen_taken bodies (whole body) all = cc
seen_taken bodies (failed at) all = refl

-- the frames and the end of a stream whose frames were all taken
pub HasTaken-all : (stream : List ℕ) (bodies : List (List ℕ)) (framer : FramerView) → HasTaken stream bodies framer → whole_body framer.state ≡ None
    → frames_of stream ≡ record { bodies = bodies; ending = ending_of framer.state }
HasTaken-all stream bodies framer has all = has.frames ∙ seen_taken bodies framer.state all

-- however the stream was cut
pub feed_pieces-frames : (pieces : List (List ℕ)) → outcome (feed_pieces fresh_framer pieces) ≡ frames_of (concat pieces)
feed_pieces-frames pieces =
    let runs = feed_pieces-runs pieces [] [] fresh_framer HasTaken-fresh refl in
    let given = feed_pieces fresh_framer pieces in
    sym (HasTaken-all (concat pieces) given.bodies given.framer runs.taken runs.all)

-- frames that were spelled
pub feed_pieces-across : (bodies pieces : List (List ℕ)) → AllByRecursion Fits bodies → concat pieces ≡ flat_map frame_spelling bodies
    → outcome (feed_pieces fresh_framer pieces) ≡ all_frames bodies
feed_pieces-across bodies pieces fit joined = feed_pieces-frames pieces ∙ ap frames_of joined ∙ frames_of-spellings bodies fit
