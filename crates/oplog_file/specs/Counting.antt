-- Which entries count behind a header (docs/FORMATS.md, "The change file").
use Rattle.std.specs.Prelude.{◌≡◌, ℕ, zero, suc, ◌+◌, ◌≤◌, ◌==◌, Bool, ◌&&◌, nat_lt, List, [], ◌∷◌, length, take, drop, Option, None, Some, Result, sum_by, ⊤, ◌<◌}
use Rattle.oplog_form.specs.declared.entry.Entry.{Entry}
use Rattle.oplog_form.specs.declared.entry.TheConstants.{MAX_ENTRY_BYTES}
use Rattle.oplog_form.specs.Entries.{entry_of}
use Rattle.oplog_file.specs.declared.layout.TheConstants.{FRAME_HEAD_BYTES, ENTRIES_AT, MAX_ENTRIES_BYTES}
use Rattle.oplog_file.specs.Frames.{Frame, FrameFits, frame_bytes, front_of}
use Rattle.oplog_file.specs.Slots.{kept_if, in_area}

-- the part of the area that entries may stand in
abbrev pub entries_part : List ℕ → List ℕ
entries_part area = take MAX_ENTRIES_BYTES (drop ENTRIES_AT area)

-- it is that of an entry: of this epoch, with this number, and with a payload
abbrev pub is_entry : ℕ → ℕ → Frame → Bool
is_entry epoch number f = f.epoch == epoch && f.number == number && nat_lt 0 (length f.payload)

-- the entry's frame at the front of the bytes, where one counts
abbrev pub entry_in_front : ℕ → ℕ → List ℕ → Option Frame
entry_in_front epoch number bytes = kept_if (is_entry epoch number) (front_of MAX_ENTRY_BYTES bytes)

-- the frames count, one behind the other, and behind them none does
abbrev pub Count : ℕ → ℕ → List ℕ → List Frame → Type 0
Count epoch number bytes [] = entry_in_front epoch number bytes ≡ None
Count epoch number bytes (f ∷ frames) = (entry_in_front epoch number bytes ≡ Some f) × Count epoch (suc number) (drop (frame_bytes f) bytes) frames

-- a frame that counts before the others
abbrev pub with_others : List ℕ → (List ℕ → List Frame) → Option Frame → List Frame
with_others bytes others None = []
with_others bytes others (Some f) = f ∷ others (drop (frame_bytes f) bytes)

-- the frames that count, where there are no more than so many
unfoldable pub frames_up_to : ℕ → ℕ → ℕ → List ℕ → List Frame
frames_up_to zero epoch number bytes = []
frames_up_to (suc most) epoch number bytes = with_others bytes (frames_up_to most epoch (suc number)) (entry_in_front epoch number bytes)

-- the frames of the entries that count behind a header of this epoch, which are no more than bytes
abbrev pub entry_frames : ℕ → List ℕ → List Frame
entry_frames epoch area = frames_up_to (length (entries_part area)) epoch 1 (entries_part area)

-- frames as they are written: of one epoch, numbered on from this number, each with a payload
abbrev pub IsRun : ℕ → ℕ → List Frame → Type 0
IsRun epoch number [] = ⊤
IsRun epoch number (f ∷ frames) = FrameFits MAX_ENTRY_BYTES f × (f.epoch ≡ epoch) × (f.number ≡ number) × (0 < length f.payload) × IsRun epoch (suc number) frames

-- how many bytes some frames have
abbrev pub bytes_of : List Frame → ℕ
bytes_of frames = sum_by frame_bytes frames

-- the entry of a frame that stands behind so many bytes of entries, or its first bad place in the area
abbrev pub entry_at : ℕ → Frame → Result Entry ℕ
entry_at used f = in_area (ENTRIES_AT + used) (entry_of f.payload)

-- a payload of so many bytes finds room behind so many bytes of entries
abbrev pub FindsRoom : ℕ → ℕ → Type 0
FindsRoom used bytes = used + FRAME_HEAD_BYTES + bytes ≤ MAX_ENTRIES_BYTES
