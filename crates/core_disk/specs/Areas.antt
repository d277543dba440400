-- What the five areas of a core's disk give when it is opened, or the first fault that is met (docs/FORMATS.md, "The change
-- file").
use Rattle.std.specs.Prelude.{ℕ, Bool, ◌+◌, ◌*◌, ◌/◌, ◌%◌, ◌==◌, ◌&&◌, nat_lt, List, [], ◌∷◌, ◌++◌, get_or, take, drop, replicate, Option, None, Some, Result, Ok, Err, if◌then◌else◌}
use Rattle.std.specs.Str.{bytes_eq}
use Rattle.std.specs.Int.{w64, from_le_bytes}
use Rattle.blake2b_hash.specs.Blake2b.{hash_of}
use Rattle.bit_field.specs.Pages.{is_set, bytes_from}
use Rattle.disk_trait.specs.declared.disk.Area.{Area}
use Rattle.disk_trait.specs.declared.disk.Area.TheVariants.{Oplog, Tree, BitsA, BitsB}
use Rattle.flat_tree.specs.Subtrees.{number}
use Rattle.merkle_nodes.specs.declared.node.Twig.{Twig}
use Rattle.merkle_nodes.specs.Joined.{Values}
use Rattle.compact_enc.specs.Reading.{◌>>=◌}
use Rattle.oplog_form.specs.declared.header.Header.{Header}
use Rattle.oplog_form.specs.Headers.{header_of}
use Rattle.oplog_file.specs.declared.layout.TheConstants.{FRAME_HEAD_BYTES, ENTRIES_AT, SLOT_BYTES}
use Rattle.oplog_file.specs.Frames.{Frame, frame_bytes}
use Rattle.oplog_file.specs.Slots.{slot_of, header_frame, in_area}
use Rattle.oplog_file.specs.Counting.{entry_at, entry_frames}
use Rattle.oplog_file.specs.Files.{File}
use Rattle.merkle_nodes.specs.declared.roots.Head.{Head}
use Rattle.node_set.specs.Contents.{Content, start, held}
use Rattle.node_set.specs.declared.fault.CoreFault.{CoreFault}
use Rattle.node_set.specs.declared.fault.CoreFault.TheVariants.{BadStore, Damaged}
use Rattle.node_set.specs.declared.fault.Place.TheVariants.{BitsCopy}
use Rattle.core_disk.specs.declared.layout.TheConstants.{ID_AT, NODE_BYTES}
use Rattle.core_disk.specs.Opened.{Opened, start_of, entry_after}
use Rattle.core_disk.specs.Following.{follows}

-- a content's head
abbrev pub head_of : Content → Head
head_of m = record { fork = m.fork; length = m.length; signature = m.signature }

-- what the five areas read as
abbrev pub Areas : Type 0
Areas = Area → List ℕ

-- so many bytes of an area from a place on, with zeros past its end
abbrev pub read_at : List ℕ → ℕ → ℕ → List ℕ
read_at area place count = take count (drop place area ++ replicate count 0)

-- ---- the tree area

-- a size and a hash from their bytes
abbrev pub twig_from : List ℕ → Twig
twig_from bytes = record { size = from_le_bytes w64 (take 8 bytes); hash = drop 8 bytes }

-- node x stands at NODE_BYTES * x
abbrev pub tree_values : List ℕ → Values
tree_values area depth offset = Some (twig_from (read_at area (NODE_BYTES * number depth offset) NODE_BYTES))

-- ---- the copies of the bits

-- the copy of an epoch
abbrev pub copy_of : ℕ → Area
copy_of epoch = if slot_of epoch == 0 then BitsA else BitsB

-- the blocks below a length that a copy tells as held: block i is bit i % 8, from the lowest, of byte i / 8
abbrev pub held_in : List ℕ → ℕ → ℕ → Bool
held_in area n index = nat_lt index n && is_set (get_or area (index / 8) 0) (index % 8)

-- the hash of a copy for so many blocks, with zeros behind the last
abbrev pub copy_hash : (ℕ → Bool) → ℕ → List ℕ
copy_hash held n = hash_of (bytes_from ((n + 7) / 8) held 0)

-- ---- the change file

-- the header of a new store of the core of this id
abbrev pub new_header : List ℕ → Header
new_header id = record { id = id; head = head_of start; roots = []; bits = copy_hash (held start) 0 }

-- a bad place of the change file as a fault of the core
abbrev pub in_file : {A : Type 0} → Result A ℕ → Result A CoreFault
in_file (Ok x) = Ok x
in_file (Err at) = Err (BadStore Oplog at)

-- a frame's header is of this core
abbrev pub checked_id : List ℕ → Frame → Header → Result Header ℕ
checked_id id f header = if bytes_eq header.id id then Ok header else Err (SLOT_BYTES * slot_of f.epoch + FRAME_HEAD_BYTES + ID_AT)

-- the header that a frame has, which is of this core
abbrev pub own_header : List ℕ → Frame → Result Header ℕ
own_header id f = in_area (SLOT_BYTES * slot_of f.epoch) (header_of f.payload) >>= checked_id id f

-- what a header gives with the copy of the bits of its epoch and with the tree area
abbrev pub started : ℕ → List ℕ → List ℕ → Header → Result Opened CoreFault
started epoch copy tree header =
    let held = held_in copy header.head.length in
    let have = copy_hash held header.head.length in
    if bytes_eq header.bits have then Ok (start_of header held (tree_values tree))
    else Err (Damaged (BitsCopy (copy_of epoch)) header.bits have)

-- what the entries of frames give, of which the first stands behind so many bytes of entries; or the first bad place, which
-- is that of a bad field, or that of the frame of an entry that doesn't follow
unfoldable pub entries_give : ℕ → Opened → List Frame → Result Opened ℕ
entries_give used o [] = Ok o
entries_give used o (f ∷ frames) = entry_at used f >>= λ e.
    if follows o e then entries_give (used + frame_bytes f) (entry_after o e) frames else Err (ENTRIES_AT + used)

-- what a change file gives with the other areas
abbrev pub file_gives : List ℕ → Areas → File → Result Opened CoreFault
file_gives id areas file = do
  header ← in_file (own_header id file.header)
  first ← started file.header.epoch (areas (copy_of file.header.epoch)) (areas Tree) header
  in_file (entries_give 0 first file.frames)

-- what the areas give
abbrev pub areas_give : List ℕ → Areas → Result Opened CoreFault
areas_give id areas = ByHeader (header_frame (areas Oplog))
  where
    ByHeader : Option Frame → Result Opened CoreFault
    ByHeader None = Err (BadStore Oplog 0)
    ByHeader (Some f) = file_gives id areas (record { header = f; frames = entry_frames f.epoch (areas Oplog) })
