-- How a command ends: its status, the line that it gives to the stream of errors, and the lines that it writes.
use Rattle.std.specs.Prelude.{ℕ, List, [], ◌∷◌, ◌++◌, codes}
use Rattle.std.specs.Fmt.{decimal}
use Rattle.hex.specs.Hex.{encode_lower}
use Rattle.disk_trait.specs.declared.disk.Area.{Area}
use Rattle.disk_trait.specs.declared.disk.Area.TheVariants.{Oplog as OplogArea, Tree, BitsA, BitsB, Blocks as BlocksArea}
use Rattle.node_set.specs.declared.fault.Place.{Place}
use Rattle.node_set.specs.declared.fault.Place.TheVariants.{Node as NodePlace, BitsCopy, Leaf}
use Rattle.merkle_nodes.specs.declared.node.Node.{Node}
use Rattle.hypercore_cli.specs.declared.outcome.Outcome.{Outcome}
use Rattle.merkle_nodes.specs.declared.limit.What.{What}
use Rattle.merkle_nodes.specs.declared.limit.What.TheVariants.{Block, Blocks, Bytes, Batch, BatchBytes, Fork, Oplog, Commits}
use Rattle.hypercore_cli.specs.declared.outcome.Outcome.TheVariants.{Done, Usage, ReadFault, WriteFault, StoreFault, BadForm, NotProved, BadSignature, NoCore, CoreExists, OutOfRange, Unavailable, Limit, BadStore, Damaged, NoMemory}

-- the exit status
abbrev pub status_of : Outcome → ℕ
status_of Done = 0
status_of Usage = 2
status_of ReadFault = 3
status_of WriteFault = 4
status_of StoreFault = 5
status_of (BadForm at) = 7
status_of (NotProved index want have) = 8
status_of BadSignature = 9
status_of NoCore = 10
status_of CoreExists = 11
status_of (OutOfRange end) = 12
status_of (Unavailable index) = 13
status_of (Limit what max) = 14
status_of (BadStore area at) = 15
status_of (Damaged place want have) = 16
status_of NoMemory = 70

-- a text and the end of its line
abbrev pub line : List ℕ → List ℕ
line text = text ++ 10 ∷ []

-- a node's size and hash
abbrev pub node_text : Node → List ℕ
node_text node = decimal node.size ++ codes " " ++ encode_lower node.hash

-- a quantity that has a limit
abbrev pub what_text : What → List ℕ
what_text Block = codes "block"
what_text Blocks = codes "blocks"
what_text Bytes = codes "bytes"
what_text Batch = codes "batch"
what_text BatchBytes = codes "batch-bytes"
what_text Fork = codes "fork"
what_text Oplog = codes "oplog"
what_text Commits = codes "commits"

-- an area of a core's disk
abbrev pub area_text : Area → List ℕ
area_text OplogArea = codes "oplog"
area_text Tree = codes "tree"
area_text BitsA = codes "bits-a"
area_text BitsB = codes "bits-b"
area_text BlocksArea = codes "blocks"

-- where a hash differs: a node, a block or a copy of the bits
abbrev pub place_text : Place → List ℕ
place_text (NodePlace index) = codes "node " ++ decimal index
place_text (Leaf index) = codes "block " ++ decimal index
place_text (BitsCopy area) = area_text area

-- the line, or nothing where all went well
abbrev pub line_of : Outcome → List ℕ
line_of Done = []
line_of Usage = line (codes "usage: hypercore_cli COMMAND KEY [NAME] [ARGUMENTS]")
line_of ReadFault = line (codes "read fault")
line_of WriteFault = line (codes "write fault")
line_of StoreFault = line (codes "store fault")
line_of (BadForm at) = line (codes "bad form at " ++ decimal at)
line_of (NotProved index want have) =
    line (codes "not proved: index " ++ decimal index ++ codes " want " ++ node_text want ++ codes " have " ++ node_text have)
line_of BadSignature = line (codes "bad signature")
line_of NoCore = line (codes "no core")
line_of CoreExists = line (codes "core exists")
line_of (OutOfRange end) = line (codes "out of range: " ++ decimal end)
line_of (Unavailable index) = line (codes "unavailable block " ++ decimal index)
line_of (Limit what max) = line (codes "limit " ++ what_text what ++ codes ": " ++ decimal max)
line_of (BadStore area at) = line (codes "bad store " ++ area_text area ++ codes " at " ++ decimal at)
line_of (Damaged place want have) =
    line (codes "damaged " ++ place_text place ++ codes " want " ++ encode_lower want ++ codes " have " ++ encode_lower have)
line_of NoMemory = line (codes "no memory")

-- ---- what a command writes

-- a core's id
abbrev pub id_line : List ℕ → List ℕ
id_line id = line (codes "id " ++ encode_lower id)

-- a core's length and fork
abbrev pub length_line : ℕ → ℕ → List ℕ
length_line blocks fork = line (codes "length " ++ decimal blocks ++ codes " fork " ++ decimal fork)
