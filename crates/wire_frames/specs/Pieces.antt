-- A stream that is fed in pieces, and each frame taken when it is whole.
use Rattle.std.specs.Prelude.{ℕ, zero, suc, List, [], ◌∷◌, ◌++◌, length, drop, Option, Some, None, Result, Ok, Err}
use Rattle.wire_frames.specs.declared.framer.FrameFault.{FrameFault}
use Rattle.wire_frames.specs.Frames.{End, between, too_long, end_of, Stream}
use Rattle.wire_frames.specs.Framing.{State, partial, whole, failed, FramerView, feed, whole_body, after_take}

-- the bodies that were taken, and the framer
pub record Given : Type 0 where
  pub bodies : List (List ℕ)
  pub framer : FramerView

-- no body was taken
abbrev pub none_given : FramerView → Given
none_given framer = record { bodies = []; framer = framer }

-- a body before the others
abbrev pub one_given : List ℕ → Given → Given
one_given body given = record { bodies = body ∷ given.bodies; framer = given.framer }

-- a frame that is whole is taken, and the rest of the piece goes on to the next call
abbrev pub given_after_take : Option (List ℕ) → FramerView → List ℕ → (FramerView → List ℕ → Given) → Given
given_after_take (Some body) framer rest next = one_given body (next (after_take framer) rest)
given_after_take None framer rest next = none_given framer

-- a call of `feed` with a piece, and then the next call, unless it failed
abbrev pub given_after_feed : Result ℕ FrameFault → FramerView → List ℕ → (FramerView → List ℕ → Given) → Given
given_after_feed (Ok n) framer piece next = given_after_take (whole_body framer.state) framer (drop n piece) next
given_after_feed (Err fault) framer piece next = none_given framer

-- feeds a piece to its end, and takes each frame when it is whole, in so many calls at most
unfoldable pub feed_piece : ℕ → FramerView → List ℕ → Given
feed_piece zero framer piece = none_given framer
feed_piece (suc most) framer piece = let fed = feed framer piece in given_after_feed fed.answer fed.framer piece (feed_piece most)

-- feeds the pieces in turn; a piece ends no more frames than it has bytes
unfoldable pub feed_pieces : FramerView → List (List ℕ) → Given
feed_pieces framer [] = none_given framer
feed_pieces framer (piece ∷ pieces) =
    let first = feed_piece (length piece) framer piece in
    let more = feed_pieces first.framer pieces in
    record { bodies = first.bodies ++ more.bodies; framer = more.framer }

-- how the stream ends, where no frame waits
abbrev pub ending_of : State → End
ending_of (partial kept) = end_of kept
ending_of (whole body) = between
ending_of (failed at) = too_long at

-- the frames that were given out, and how the stream ends
abbrev pub outcome : Given → Stream
outcome given = record { bodies = given.bodies; ending = ending_of given.framer.state }
