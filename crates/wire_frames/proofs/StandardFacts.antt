-- Worked cases, computed by the definitions.
use Rattle.std.proofs.Common.{◌≡◌, [], ◌∷◌, Ok, Err, refl}
use Rattle.wire_frames.specs.declared.framer.FrameFault.TheVariants.{TooLong}
use Rattle.wire_frames.specs.Frames.{frame_spelling, frames_from, frames_of, between, within, too_long}
use Rattle.wire_frames.specs.Framing.{partial, whole, failed, fresh_framer, feed}
use Rattle.wire_frames.specs.Pieces.{feed_piece, feed_pieces}
use Rattle.wire_frames.specs.declared.limits.TheConstants.{LENGTH_BYTES, MAX_FRAME_BYTES, OUTBOX_BYTES}

-- a keep-alive is a frame with an empty body
pub a_keep_alive : frames_of (0 ∷ 0 ∷ 0 ∷ []) ≡ record { bodies = [] ∷ []; ending = between }
unfolding frames_from
a_keep_alive = refl

-- Cancel of id 5, no-data of id 1, and Sync of fork 0 and length 300
pub three_frames : frames_of (2 ∷ 0 ∷ 0 ∷ 3 ∷ 5 ∷ 2 ∷ 0 ∷ 0 ∷ 5 ∷ 1 ∷ 5 ∷ 0 ∷ 0 ∷ 1 ∷ 0 ∷ 0xfd ∷ 0x2c ∷ 1 ∷ [])
    ≡ record { bodies = (3 ∷ 5 ∷ []) ∷ (5 ∷ 1 ∷ []) ∷ (1 ∷ 0 ∷ 0xfd ∷ 0x2c ∷ 1 ∷ []) ∷ []; ending = between }
unfolding frames_from
three_frames = refl

pub spelling_of_cancel : frame_spelling (3 ∷ 5 ∷ []) ≡ 2 ∷ 0 ∷ 0 ∷ 3 ∷ 5 ∷ []
spelling_of_cancel = refl

pub spelling_of_a_keep_alive : frame_spelling [] ≡ 0 ∷ 0 ∷ 0 ∷ []
spelling_of_a_keep_alive = refl

-- the largest length, and one more
pub largest_length : frames_of (0x00 ∷ 0x20 ∷ 0x10 ∷ []) ≡ record { bodies = []; ending = within (0x00 ∷ 0x20 ∷ 0x10 ∷ []) }
unfolding frames_from
largest_length = refl

pub length_above : frames_of (0x01 ∷ 0x20 ∷ 0x10 ∷ []) ≡ record { bodies = []; ending = too_long 0 }
unfolding frames_from
length_above = refl

pub length_above_behind_a_frame : frames_of (2 ∷ 0 ∷ 0 ∷ 3 ∷ 5 ∷ 0x01 ∷ 0x20 ∷ 0x10 ∷ 9 ∷ []) ≡ record { bodies = (3 ∷ 5 ∷ []) ∷ []; ending = too_long 5 }
unfolding frames_from
length_above_behind_a_frame = refl

-- a stream that ends within a length, and within a body
pub half_a_length : frames_of (0 ∷ 0 ∷ 0 ∷ 1 ∷ 0x20 ∷ []) ≡ record { bodies = [] ∷ []; ending = within (1 ∷ 0x20 ∷ []) }
unfolding frames_from
half_a_length = refl

pub half_a_body : frames_of (2 ∷ 0 ∷ 0 ∷ 3 ∷ []) ≡ record { bodies = []; ending = within (2 ∷ 0 ∷ 0 ∷ 3 ∷ []) }
unfolding frames_from
half_a_body = refl

pub no_byte : frames_of [] ≡ record { bodies = []; ending = between }
unfolding frames_from
no_byte = refl

-- a framer takes a piece up to the end of the present frame
pub a_piece_up_to_the_end : feed (record { place = 3; state = partial (2 ∷ 0 ∷ 0 ∷ []) }) (3 ∷ 5 ∷ 2 ∷ 0 ∷ [])
    ≡ record { answer = Ok 2; framer = record { place = 5; state = whole (3 ∷ 5 ∷ []) } }
a_piece_up_to_the_end = refl

pub nothing_while_a_frame_waits : feed (record { place = 5; state = whole (3 ∷ 5 ∷ []) }) (2 ∷ 0 ∷ [])
    ≡ record { answer = Ok 0; framer = record { place = 5; state = whole (3 ∷ 5 ∷ []) } }
nothing_while_a_frame_waits = refl

-- a length above the limit is told at its third byte, with the place of its first
pub two_bytes_of_a_length : feed (record { place = 7; state = partial [] }) (1 ∷ 0x20 ∷ [])
    ≡ record { answer = Ok 2; framer = record { place = 9; state = partial (1 ∷ 0x20 ∷ []) } }
two_bytes_of_a_length = refl

pub third_byte_of_a_length : feed (record { place = 9; state = partial (1 ∷ 0x20 ∷ []) }) (0x10 ∷ 0 ∷ [])
    ≡ record { answer = Err (TooLong 7); framer = record { place = 9; state = failed 7 } }
third_byte_of_a_length = refl

-- the same stream in three pieces, and in one
pub three_pieces : feed_pieces fresh_framer ((2 ∷ []) ∷ (0 ∷ 0 ∷ []) ∷ (3 ∷ 5 ∷ 2 ∷ 0 ∷ []) ∷ [])
    ≡ record { bodies = (3 ∷ 5 ∷ []) ∷ []; framer = record { place = 7; state = partial (2 ∷ 0 ∷ []) } }
unfolding feed_pieces feed_piece
three_pieces = refl

pub one_piece : feed_pieces fresh_framer ((0 ∷ 0 ∷ 0 ∷ 2 ∷ 0 ∷ 0 ∷ 3 ∷ 5 ∷ 2 ∷ 0 ∷ []) ∷ [])
    ≡ record { bodies = [] ∷ (3 ∷ 5 ∷ []) ∷ []; framer = record { place = 10; state = partial (2 ∷ 0 ∷ []) } }
unfolding feed_pieces feed_piece
one_piece = refl

-- ---- limits

length_bytes_is : LENGTH_BYTES ≡ 3
length_bytes_is = refl

max_frame_bytes_is : MAX_FRAME_BYTES ≡ 1056768
max_frame_bytes_is = refl

outbox_bytes_is : OUTBOX_BYTES ≡ 1064960
outbox_bytes_is = refl
