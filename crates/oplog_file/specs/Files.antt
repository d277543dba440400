-- What a change file stands for, what is written behind it, and what a torn write can't make of it
-- (docs/FORMATS.md, "The change file").
use Rattle.std.specs.Prelude.{◌≡◌, ◌⊎◌, ℕ, ◌+◌, ◌*◌, ◌%◌, ◌^◌, List, ◌∷◌, ◌++◌, length, Some}
use Rattle.std.specs.List.{Contains}
use Rattle.oplog_file.specs.declared.layout.TheConstants.{SLOT_BYTES, ENTRIES_AT}
use Rattle.oplog_file.specs.Frames.{Frame}
use Rattle.oplog_file.specs.Slots.{slot_of, header_frame}
use Rattle.oplog_file.specs.Counting.{entry_frames, bytes_of}

-- the frame of the header that counts, and those of the entries that count behind it
pub record File : Type 0 where
  pub header : Frame
  pub frames : List Frame

-- the area is this file
pub record IsFile (area : List ℕ) (file : File) : Type 0 where
  pub header_is : header_frame area ≡ Some file.header
  pub frames_are : entry_frames file.header.epoch area ≡ file.frames

-- where the next entry is written
abbrev pub end_of : File → ℕ
end_of file = ENTRIES_AT + bytes_of file.frames

-- the frame of the next entry, with this payload
abbrev pub next_frame : File → List ℕ → Frame
next_frame file payload = record { epoch = file.header.epoch; number = length file.frames + 1; payload = payload }

-- the epoch of the next header
abbrev pub next_epoch : ℕ → ℕ
next_epoch epoch = (epoch + 1) % 2 ^ 64

-- the frame of the next header, with this payload
abbrev pub next_header : File → List ℕ → Frame
next_header file payload = record { epoch = next_epoch file.header.epoch; number = 0; payload = payload }

-- the frame is that of the header that counts, at this place of the area
abbrev pub HeaderCounts : List ℕ → ℕ → Frame → Type 0
HeaderCounts area place f = (header_frame area ≡ Some f) × (place ≡ SLOT_BYTES * slot_of f.epoch)

-- the frame is that of an entry that counts, at this place of the area
pub record EntryCounts (area : List ℕ) (place : ℕ) (f : Frame) : Type 0 where
  pub header : Frame
  pub front : List Frame
  pub back : List Frame
  pub counts : header_frame area ≡ Some header
  pub frames : entry_frames header.epoch area ≡ front ++ f ∷ back
  pub at : place ≡ ENTRIES_AT + bytes_of front

-- the frame counts at this place of the area
abbrev pub CountsAt : List ℕ → ℕ → Frame → Type 0
CountsAt area place f = HeaderCounts area place f ⊎ EntryCounts area place f

-- no bytes make a frame by chance: each that counts in the image counted there before, or is one of these
abbrev pub NoChance : List Frame → List ℕ → List ℕ → Type 0
NoChance frames old image = (place : ℕ) (f : Frame) → CountsAt image place f → CountsAt old place f ⊎ Contains frames f
