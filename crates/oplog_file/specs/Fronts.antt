-- What is told of the frame at the front of some bytes.
use Rattle.std.specs.Prelude.{ℕ, List, take, drop}
use Rattle.oplog_file.specs.declared.frame.Front.{Front}
use Rattle.oplog_file.specs.declared.layout.TheConstants.{FRAME_HEAD_BYTES}
use Rattle.oplog_file.specs.Frames.{Frame}

-- the payload of so many bytes behind a frame's head
abbrev pub payload_in : ℕ → List ℕ → List ℕ
payload_in count bytes = take count (drop FRAME_HEAD_BYTES bytes)

-- the frame at the front of the bytes that this is told of
abbrev pub frame_told : List ℕ → Front → Frame
frame_told bytes front = record { epoch = front.epoch; number = front.number; payload = payload_in front.payload_len bytes }
