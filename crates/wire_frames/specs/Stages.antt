-- What the bytes in a framer's buffer stand for, at each of its stages.
use Rattle.std.specs.Prelude.{◌≡◌, ℕ, ◌+◌, ◌≤◌, List, length, take, drop}
use Rattle.wire_frames.specs.declared.framer.Stage.{Stage}
use Rattle.wire_frames.specs.declared.framer.Stage.TheVariants.{Open, Whole, Failed}
use Rattle.wire_frames.specs.declared.limits.TheConstants.{LENGTH_BYTES, MAX_FRAME_BYTES}
use Rattle.wire_frames.specs.Frames.{front_of, short}
use Rattle.wire_frames.specs.Framing.{State, partial, whole, failed}

-- the state, by the stage and the bytes that are kept
abbrev pub state_of : Stage → List ℕ → State
state_of Open kept = partial kept
state_of Whole kept = whole (drop LENGTH_BYTES kept)
state_of (Failed at) kept = failed at

-- an unfinished frame is one, and a whole one has its length
abbrev pub IsKept : Stage → ℕ → List ℕ → Type 0
IsKept Open place kept = (length kept ≤ place) × (front_of kept ≡ short)
IsKept Whole place kept = LENGTH_BYTES ≤ length kept
IsKept (Failed at) place kept = Unit {0}

-- what is known of a framer's fields: the buffer has room for a frame, and so many of its bytes are kept
pub record IsSettled (stage : Stage) (place kept : ℕ) (buffer : List ℕ) (capacity : ℕ) : Type 0 where
  pub room : LENGTH_BYTES + MAX_FRAME_BYTES ≤ capacity
  pub within : kept ≤ length buffer
  pub frame : IsKept stage place (take kept buffer)
