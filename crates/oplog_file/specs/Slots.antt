-- Which header counts (docs/FORMATS.md, "The change file").
use Rattle.std.specs.Prelude.{ℕ, ◌+◌, ◌*◌, ◌%◌, ◌==◌, Bool, true, false, ◌&&◌, nat_lt, List, take, drop, Option, None, Some, Result, Ok, Err, if◌then◌else◌}
use Rattle.oplog_form.specs.declared.header.Header.{Header}
use Rattle.oplog_form.specs.declared.header.TheConstants.{MAX_HEADER_BYTES}
use Rattle.oplog_form.specs.declared.form.BadForm.{BadForm}
use Rattle.oplog_form.specs.Headers.{header_of}
use Rattle.oplog_file.specs.declared.layout.TheConstants.{FRAME_HEAD_BYTES, SLOT_BYTES, LAST_EPOCH}
use Rattle.oplog_file.specs.Frames.{Frame, front_of}

-- a frame that passes the test
abbrev pub kept_if : (Frame → Bool) → Option Frame → Option Frame
kept_if test None = None
kept_if test (Some f) = if test f then Some f else None

-- where the header of an epoch stands
abbrev pub slot_of : ℕ → ℕ
slot_of epoch = epoch % 2

-- it is a header's, in its epoch's slot
abbrev pub is_header : ℕ → Frame → Bool
is_header slot f = f.number == 0 && slot_of f.epoch == slot

-- the header's frame in a slot, where one passes
abbrev pub header_in_slot : ℕ → List ℕ → Option Frame
header_in_slot slot area = kept_if (is_header slot) (front_of MAX_HEADER_BYTES (take SLOT_BYTES (drop (SLOT_BYTES * slot) area)))

-- an epoch is after another: 0 is after the last, and else the greater one is
abbrev pub is_after : ℕ → ℕ → Bool
is_after one other =
    if one == 0 && other == LAST_EPOCH then true
    else if one == LAST_EPOCH && other == 0 then false
    else nat_lt other one

-- the later of two frames that may be there
abbrev pub later_of : Option Frame → Option Frame → Option Frame
later_of None other = other
later_of one None = one
later_of (Some one) (Some other) = if is_after one.epoch other.epoch then Some one else Some other

-- the frame of the header that counts
abbrev pub header_frame : List ℕ → Option Frame
header_frame area = later_of (header_in_slot 0 area) (header_in_slot 1 area)

-- a payload's place in the area
abbrev pub in_area : {A : Type 0} → ℕ → Result A BadForm → Result A ℕ
in_area place (Ok x) = Ok x
in_area place (Err bad) = Err (place + FRAME_HEAD_BYTES + bad.at)

-- the header that a frame has, or its first bad place in the area
abbrev pub header_of_frame : Option Frame → Result Header ℕ
header_of_frame None = Err 0
header_of_frame (Some f) = in_area (SLOT_BYTES * slot_of f.epoch) (header_of f.payload)

-- the header that counts, or the first bad place
abbrev pub header_at : List ℕ → Result Header ℕ
header_at area = header_of_frame (header_frame area)
