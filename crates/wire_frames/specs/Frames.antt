-- The frames of a stream of bytes (docs/PROTOCOL.md, "Frames"): each has the length of its body in three bytes, low byte first, and the body.
use Rattle.std.specs.Prelude.{◌≡◌, ℕ, zero, suc, ◌+◌, ◌*◌, ◌/◌, ◌%◌, ◌<◌, ◌≤◌, List, [], ◌∷◌, ◌++◌, length, take, drop, nat_lt, if◌then◌else◌}
use Rattle.std.specs.List.{flat_map, AllByRecursion}
use Rattle.wire_frames.specs.declared.limits.TheConstants.{MAX_FRAME_BYTES, LENGTH_BYTES}

-- a length in three bytes, low byte first
abbrev pub length_spelling : ℕ → List ℕ
length_spelling n = n % 256 ∷ n / 256 % 256 ∷ n / 65536 % 256 ∷ []

-- the length of the body, and the body
abbrev pub frame_spelling : List ℕ → List ℕ
frame_spelling body = length_spelling (length body) ++ body

-- what stands at the front of a stream: too few bytes for a frame, a frame's body and the bytes behind it, or a length above the limit
pub data Front : Type 0 where
  short : Front
  frame : List ℕ → List ℕ → Front
  long : Front

-- a body of so many bytes
abbrev pub body_front : ℕ → List ℕ → Front
body_front n bytes =
    if nat_lt MAX_FRAME_BYTES n then long
    else if nat_lt (length bytes) n then short
    else frame (take n bytes) (drop n bytes)

-- the first frame
abbrev pub front_of : List ℕ → Front
front_of (low ∷ middle ∷ high ∷ bytes) = body_front (low + 256 * middle + 65536 * high) bytes
front_of bytes = short

-- how a stream ends: between frames, within a frame of which these bytes are there, or at a length above the limit, at this place
pub data End : Type 0 where
  between : End
  within : List ℕ → End
  too_long : ℕ → End

-- the end of a stream that has these bytes, too few for a frame, behind its frames
abbrev pub end_of : List ℕ → End
end_of [] = between
end_of (byte ∷ bytes) = within (byte ∷ bytes)

-- the bodies of the frames of a stream, and how it ends
pub record Stream : Type 0 where
  pub bodies : List (List ℕ)
  pub ending : End

-- no frame, and this end
abbrev pub no_frame : End → Stream
no_frame ending = record { bodies = []; ending = ending }

-- these frames, and nothing behind them
abbrev pub all_frames : List (List ℕ) → Stream
all_frames bodies = record { bodies = bodies; ending = between }

-- a frame before the others
abbrev pub with_frame : List ℕ → Stream → Stream
with_frame body stream = record { bodies = body ∷ stream.bodies; ending = stream.ending }

-- the frames from this place on, by what stands there: a frame comes before the others, which are those of the rest
abbrev pub frames_by : Front → ℕ → List ℕ → (ℕ → List ℕ → Stream) → Stream
frames_by short at bytes others = no_frame (end_of bytes)
frames_by (frame body rest) at bytes others = with_frame body (others (at + (LENGTH_BYTES + length body)) rest)
frames_by long at bytes others = no_frame (too_long at)

-- the frames from this place on, where there are no more than so many
unfoldable pub frames_from : ℕ → ℕ → List ℕ → Stream
frames_from zero at bytes = no_frame (end_of bytes)
frames_from (suc most) at bytes = frames_by (front_of bytes) at bytes (frames_from most)

-- the frames of a stream, which are no more than its bytes
abbrev pub frames_of : List ℕ → Stream
frames_of stream = frames_from (length stream) 0 stream

-- the body can be that of a frame
abbrev pub Fits : List ℕ → Type 0
Fits body = length body ≤ MAX_FRAME_BYTES

-- this is a byte
abbrev pub IsByte : ℕ → Type 0
IsByte n = n < 256

-- a stream ends so at this place, where these bytes are what is left
abbrev pub EndsAs : End → ℕ → List ℕ → Type 0
EndsAs between at rest = rest ≡ []
EndsAs (within left) at rest = (rest ≡ left) × (0 < length left) × (front_of left ≡ short)
EndsAs (too_long place) at rest = (place ≡ at) × (front_of rest ≡ long)

-- the bytes from this place on are the spellings of the stream's frames, and it ends so behind them
pub record HasFrames (at : ℕ) (bytes : List ℕ) (stream : Stream) : Type 0 where
  pub rest : List ℕ
  pub joined : bytes ≡ flat_map frame_spelling stream.bodies ++ rest
  pub fit : AllByRecursion Fits stream.bodies
  pub ends : EndsAs stream.ending (at + length (flat_map frame_spelling stream.bodies)) rest
