-- A change file in hand: where its next entry goes, and what its calls do to the area (docs/FORMATS.md, "The change file").
use Rattle.std.specs.Prelude.{◌≡◌, ◌⊎◌, ℕ, false, ◌+◌, ◌≤◌, List, [], ◌∷◌, ◌++◌, length, drop, Option, Result, OnOk}
use Rattle.disk_trait.specs.declared.disk.Area.TheVariants.{Oplog}
use Rattle.disk_trait.specs.Disk.{DiskView, Elapses, Rests, Torn, Cut, is_same}
use Rattle.disk_trait.specs.declared.disk.Area.{Area}
use Rattle.oplog_file.specs.declared.layout.TheConstants.{ENTRIES_AT, SLOT_BYTES}
use Rattle.oplog_file.specs.Frames.{Frame, frame_spelling, frame_bytes}
use Rattle.oplog_file.specs.Counting.{entries_part, entry_in_front, bytes_of}
use Rattle.oplog_file.specs.Files.{File, IsFile, end_of, next_frame, NoChance}
use Rattle.oplog_file.specs.Slots.{slot_of}

-- the epoch of the header that counts; how many entries were passed, and the bytes of their frames; and of the entry that was
-- passed last, where its frame begins behind the slots, and its payload
pub record Place : Type 0 where
  pub epoch : ℕ
  pub count : ℕ
  pub used : ℕ
  pub last : ℕ
  pub payload : List ℕ

-- it is behind all entries of the file
pub record IsBehind (place : Place) (file : File) : Type 0 where
  pub epoch : place.epoch ≡ file.header.epoch
  pub count : place.count ≡ length file.frames
  pub used : place.used ≡ bytes_of file.frames

-- it is in front of the first entry
pub record IsInFront (place : Place) (epoch : ℕ) : Type 0 where
  pub epoch_is : place.epoch ≡ epoch
  pub none : place.count ≡ 0
  pub unused : place.used ≡ 0

-- the frame that counts next behind it
abbrev pub frame_behind : Place → List ℕ → Option Frame
frame_behind place area = entry_in_front place.epoch (place.count + 1) (drop place.used (entries_part area))

-- it passes a frame
pub record Passes (f : Frame) (old new : Place) : Type 0 where
  pub epoch : new.epoch ≡ old.epoch
  pub count : new.count ≡ old.count + 1
  pub used : new.used ≡ old.used + frame_bytes f
  pub last : new.last ≡ old.used
  pub payload : new.payload ≡ f.payload

-- it stays where it is
pub record Stands (old new : Place) : Type 0 where
  pub epoch : new.epoch ≡ old.epoch
  pub count : new.count ≡ old.count
  pub used : new.used ≡ old.used

-- the file with one entry more
abbrev pub with_entry : List ℕ → File → File
with_entry payload file = record { header = file.header; frames = file.frames ++ next_frame file payload ∷ [] }

-- the frame of a new file's header, with this payload
abbrev pub new_header : List ℕ → Frame
new_header payload = record { epoch = 0; number = 0; payload = payload }

-- a new file with this payload of its header, without entries
abbrev pub new_file : List ℕ → File
new_file payload = record { header = new_header payload; frames = [] }

-- Nothing stands behind the last entry, and where the first slot's header counts, the area doesn't end within the second: a
-- gap of zeros might make whole there what is left of a torn header.
pub record IsTrim (file : File) (area : List ℕ) : Type 0 where
  pub behind : length area ≤ end_of file
  pub slots : (slot_of file.header.epoch ≡ 1) ⊎ ((length area ≤ SLOT_BYTES) ⊎ (ENTRIES_AT ≤ length area))

-- a cut to so many bytes takes nothing that counts
abbrev pub MayCutAt : File → ℕ → Type 0
MayCutAt file to = (end_of file ≤ to) ⊎ ((slot_of file.header.epoch ≡ 0) × (file.frames ≡ []) × (SLOT_BYTES ≤ to))

-- whatever a crash now leaves of the area is this file
abbrev pub IsFirmFile : File → DiskView → Type 0
IsFirmFile file disk = (c : List ℕ) → disk.image disk.moment Oplog c → IsFile c file

-- the other areas are as they were
abbrev pub OthersRest : DiskView → DiskView → Type 0
OthersRest old new = (other : Area) → is_same Oplog other ≡ false → Rests other old new

-- An entry comes behind a file: at each moment a crash leaves the file or the one with the entry, but for what makes frames by
-- chance. After Ok over a trim file it leaves the one with the entry, which is trim.
pub record AddsEntry {T E : Type 0} (file : File) (payload : List ℕ) (old new : DiskView) (answer : Result T E) : Type 0 where
  pub time : Elapses old new
  pub others : OthersRest old new
  pub any_moment : IsFirmFile file old → (t : ℕ) (c : List ℕ) → old.moment ≤ t → t ≤ new.moment → new.image t Oplog c
      → NoChance (next_frame file payload ∷ []) (old.reads Oplog) c → IsFile c file ⊎ IsFile c (with_entry payload file)
  pub ok : IsFile (old.reads Oplog) file → IsTrim file (old.reads Oplog)
      → OnOk answer (IsFile (new.reads Oplog) (with_entry payload file) × IsTrim (with_entry payload file) (new.reads Oplog) × IsFirmFile (with_entry payload file) new)

-- what is behind the last entry that counts is cut: at each moment a crash leaves the same file; after Ok the file is trim
pub record CutsTail {T E : Type 0} (file : File) (old new : DiskView) (answer : Result T E) : Type 0 where
  pub time : Elapses old new
  pub others : OthersRest old new
  pub any_moment : IsFirmFile file old → (t : ℕ) (c : List ℕ) → old.moment ≤ t → t ≤ new.moment → new.image t Oplog c → IsFile c file
  pub ok : IsFile (old.reads Oplog) file → OnOk answer (IsFile (new.reads Oplog) file × IsTrim file (new.reads Oplog) × IsFirmFile file new)

-- a crash left a front of what it could leave before, or some of these bytes and nothing else
abbrev pub IsHalfMade : List ℕ → DiskView → List ℕ → Type 0
IsHalfMade bytes old c = ((d : List ℕ) × old.image old.moment Oplog d × Cut 0 d c) ⊎ Torn 0 (length bytes) [] c

-- The area is made anew with this payload of its header: no crash leaves entries from before behind the new header. After Ok it
-- leaves the new file, which is trim.
pub record MakesFile {T E : Type 0} (payload : List ℕ) (old new : DiskView) (answer : Result T E) : Type 0 where
  pub time : Elapses old new
  pub others : OthersRest old new
  pub any_moment : (t : ℕ) (c : List ℕ) → old.moment ≤ t → t ≤ new.moment → new.image t Oplog c
      → IsHalfMade (frame_spelling (new_header payload)) old c
  pub ok : OnOk answer (IsFile (new.reads Oplog) (new_file payload) × IsTrim (new_file payload) (new.reads Oplog) × IsFirmFile (new_file payload) new)
