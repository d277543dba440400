-- What a change file in hand keeps true of its fields.
use Rattle.std.specs.Prelude.{◌≡◌, ℕ, ◌+◌, ◌*◌, ◌≤◌, List, length}
use Rattle.oplog_form.specs.declared.entry.TheConstants.{MAX_ENTRY_BYTES}
use Rattle.oplog_file.specs.declared.layout.TheConstants.{FRAME_HEAD_BYTES, MAX_ENTRIES_BYTES}

-- its numbers agree, and it has the room for one entry's frame
pub record IsHeld (passed used last payload_len : ℕ) (frame : List ℕ) : Type 0 where
  pub within : used ≤ MAX_ENTRIES_BYTES
  pub before : last ≤ used
  pub each : (FRAME_HEAD_BYTES + 1) * passed ≤ used
  pub room : length frame ≡ FRAME_HEAD_BYTES + MAX_ENTRY_BYTES
  pub payload : payload_len ≤ MAX_ENTRY_BYTES
