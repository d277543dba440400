-- What a framer has of a stream, and what its calls do.
use Rattle.std.specs.Prelude.{◌≡◌, ℕ, ◌+◌, ◌-◌, Bool, true, false, List, [], ◌∷◌, ◌++◌, length, take, Option, Some, None, Result, Ok, Err}
use Rattle.wire_frames.specs.declared.framer.FrameFault.{FrameFault}
use Rattle.wire_frames.specs.declared.framer.FrameFault.TheVariants.{TooLong}
use Rattle.wire_frames.specs.Frames.{Front, short, frame, long, front_of, between, too_long, end_of, Stream, frames_of}

-- the bytes of an unfinished frame, none between frames; the body of a whole frame, to be taken; or the place of a length above the limit
pub data State : Type 0 where
  partial : List ℕ → State
  whole : List ℕ → State
  failed : ℕ → State

-- how many bytes of the stream were taken, and what is kept of them
pub record FramerView : Type 0 where
  pub place : ℕ
  pub state : State

-- nothing is taken yet
abbrev pub fresh_framer : FramerView
fresh_framer = record { place = 0; state = partial [] }

-- no byte of an unfinished frame is kept
abbrev pub is_between : State → Bool
is_between (partial []) = true
is_between (partial (byte ∷ kept)) = false
is_between (whole body) = true
is_between (failed at) = false

-- what `feed` answers, and the framer after it
pub record Fed : Type 0 where
  pub answer : Result ℕ FrameFault
  pub framer : FramerView

-- so many bytes are taken
abbrev pub fed_bytes : FramerView → ℕ → State → Fed
fed_bytes framer n state = record { answer = Ok n; framer = record { place = framer.place + n; state = state } }

-- a piece behind the bytes that are kept, by what is then at the front: no byte is taken past the end of the frame
abbrev pub fed_behind : FramerView → List ℕ → List ℕ → Front → Fed
fed_behind framer kept piece short = fed_bytes framer (length piece) (partial (kept ++ piece))
fed_behind framer kept piece (frame body rest) = fed_bytes framer (length piece - length rest) (whole body)
fed_behind framer kept piece long =
    let at = framer.place - length kept in
    record { answer = Err (TooLong at); framer = record { place = framer.place; state = failed at } }

-- a piece at each state: nothing is taken while a frame waits, nor after a fault
abbrev pub fed_at : State → FramerView → List ℕ → Fed
fed_at (partial kept) framer piece = fed_behind framer kept piece (front_of (kept ++ piece))
fed_at (whole body) framer piece = record { answer = Ok 0; framer = framer }
fed_at (failed at) framer piece = record { answer = Err (TooLong at); framer = framer }

-- a call of `feed`
abbrev pub feed : FramerView → List ℕ → Fed
feed framer piece = fed_at framer.state framer piece

-- the body of a whole frame
abbrev pub whole_body : State → Option (List ℕ)
whole_body (partial kept) = None
whole_body (whole body) = Some body
whole_body (failed at) = None

-- a whole frame is given out once
abbrev pub state_after_take : State → State
state_after_take (partial kept) = partial kept
state_after_take (whole body) = partial []
state_after_take (failed at) = failed at

-- the framer once its whole frame was given out
abbrev pub after_take : FramerView → FramerView
after_take framer = record { place = framer.place; state = state_after_take framer.state }

-- the frames and the end of a stream of which these bodies were given out, by the framer's state
abbrev pub frames_seen : List (List ℕ) → State → Stream
frames_seen bodies (partial kept) = record { bodies = bodies; ending = end_of kept }
frames_seen bodies (whole body) = record { bodies = bodies ++ body ∷ []; ending = between }
frames_seen bodies (failed at) = record { bodies = bodies; ending = too_long at }

-- the count is that of the bytes so far; of what comes after a fault none is counted
abbrev pub Counts : State → ℕ → ℕ → Type 0
Counts (partial kept) place count = place ≡ count
Counts (whole body) place count = place ≡ count
Counts (failed at) place count = Unit {0}

-- the framer was fed this stream, and gave out these bodies
pub record HasTaken (stream : List ℕ) (bodies : List (List ℕ)) (framer : FramerView) : Type 0 where
  pub frames : frames_of stream ≡ frames_seen bodies framer.state
  pub counts : Counts framer.state framer.place (length stream)

-- the part of a piece that is behind the caller: the bytes that were taken, and after a fault all of them
abbrev pub taken_part : Result ℕ FrameFault → List ℕ → List ℕ
taken_part (Ok n) piece = take n piece
taken_part (Err fault) piece = piece
