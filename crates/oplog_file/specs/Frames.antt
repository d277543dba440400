-- A frame: a payload behind its length, a check, an epoch and a number (docs/FORMATS.md, "The change file").
use Rattle.std.specs.Prelude.{◌≡◌, ℕ, ◌+◌, ◌^◌, ◌<◌, ◌≤◌, Bool, ◌&&◌, nat_le, List, ◌++◌, length, take, drop, Option, None, Some, if◌then◌else◌}
use Rattle.std.specs.Int.{w32, w64, to_le_bytes, from_le_bytes}
use Rattle.std.specs.Str.{bytes_eq}
use Rattle.blake2b_hash.specs.Blake2b.{hash_of}
use Rattle.merkle_nodes.specs.Tree.{u64_bytes}
use Rattle.oplog_file.specs.declared.layout.TheConstants.{FRAME_HEAD_BYTES, CHECK_BYTES}

-- the epoch of a header and of the entries behind it, the number of the entry, 0 for the header, and the payload
pub record Frame : Type 0 where
  pub epoch : ℕ
  pub number : ℕ
  pub payload : List ℕ

-- a number in four bytes, low byte first
abbrev pub u32_bytes : ℕ → List ℕ
u32_bytes = to_le_bytes w32

-- what a frame's check is over
abbrev pub tail_of : Frame → List ℕ
tail_of f = u64_bytes f.epoch ++ u32_bytes f.number ++ f.payload

-- the check of some bytes: the first of their hash
abbrev pub check_of : List ℕ → List ℕ
check_of bytes = take CHECK_BYTES (hash_of bytes)

-- the bytes of a frame
abbrev pub frame_spelling : Frame → List ℕ
frame_spelling f = u32_bytes (length f.payload) ++ check_of (tail_of f) ++ tail_of f

-- how many they are
abbrev pub frame_bytes : Frame → ℕ
frame_bytes f = FRAME_HEAD_BYTES + length f.payload

-- what has a spelling: each number in its bytes, and no more payload than max
pub record FrameFits (max : ℕ) (f : Frame) : Type 0 where
  pub epoch : f.epoch < 2 ^ 64
  pub number : f.number < 2 ^ 32
  pub payload : length f.payload ≤ max

-- the frame stands at the front of the bytes
pub record BeginsWith (max : ℕ) (bytes : List ℕ) (f : Frame) : Type 0 where
  pub fits : FrameFits max f
  pub rest : List ℕ
  pub parts : bytes ≡ frame_spelling f ++ rest

-- a frame from what its check is over
abbrev pub frame_from : List ℕ → Frame
frame_from tail = record { epoch = from_le_bytes w64 (take 8 tail); number = from_le_bytes w32 (take 4 (drop 8 tail)); payload = drop 12 tail }

-- so many bytes of payload are there, no more than max, and the check matches
abbrev pub is_whole : ℕ → ℕ → List ℕ → List ℕ → Bool
is_whole max count bytes tail = nat_le count max && nat_le (FRAME_HEAD_BYTES + count) (length bytes) && bytes_eq (take CHECK_BYTES (drop 4 bytes)) (check_of tail)

-- the frame at the front of the bytes, where there is a whole one with at most max bytes of payload
unfoldable pub front_of : ℕ → List ℕ → Option Frame
front_of max bytes =
    let count = from_le_bytes w32 (take 4 bytes) in
    let tail = take (12 + count) (drop 20 bytes) in
    if is_whole max count bytes tail then Some (frame_from tail) else None
