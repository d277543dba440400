-- What a frame is with the bytes of a piece behind it.
use Rattle.std.specs.Prelude.{◌≡◌, ℕ, ◌+◌, ◌*◌, ◌<◌, ◌≤◌, List, ◌++◌, length, drop, slice_index}
use Rattle.wire_frames.specs.declared.fill.Filled.{Filled}
use Rattle.wire_frames.specs.declared.fill.Filled.TheVariants.{Short, Whole, Long}
use Rattle.wire_frames.specs.declared.limits.TheConstants.{LENGTH_BYTES}
use Rattle.wire_frames.specs.Frames.{front_of, short, frame, long}

-- the length that stands in front
abbrev pub length_at : List ℕ → ℕ
length_at bytes = slice_index bytes 0 + 256 * slice_index bytes 1 + 65536 * slice_index bytes 2

-- the bytes of the piece that belong to the frame were added
abbrev pub Fills : List ℕ → List ℕ → List ℕ → Filled → Type 0
Fills old new piece Short = (front_of (old ++ piece) ≡ short) × (new ≡ old ++ piece)
Fills old new piece (Whole taken) =
    (front_of (old ++ piece) ≡ frame (drop LENGTH_BYTES new) (drop taken piece))
    × (LENGTH_BYTES ≤ length new) × (0 < taken) × (taken ≤ length piece)
Fills old new piece Long = front_of (old ++ piece) ≡ long
