-- What `append` may do: how each end of it comes about.
use Rattle.std.specs.Prelude.{◌≡◌, ◌⊎◌, ℕ, Bool, List, [], ◌∷◌, ◌++◌, Result, Ok, Err}
use Rattle.std.specs.Io.KnownBytes.{Keeps, Appends}
use Rattle.outside_traits.specs.Faults.{Rose}
use Rattle.outside_traits.specs.Streams.{SourceView, SinkView, AppendsFront}
use Rattle.outside_traits.specs.Lines.{IsOpen, lines_of}
use Rattle.flat_tree.specs.declared.limits.TheConstants.{MAX_BLOCK_BYTES}
use Rattle.disk_trait.specs.declared.disk.Area.TheVariants.{Oplog as OplogArea}
use Rattle.disk_trait.specs.Disk.{IsImage}
use Rattle.merkle_nodes.specs.declared.limit.What.{What}
use Rattle.merkle_nodes.specs.declared.limit.What.TheVariants.{Block}
use Rattle.merkle_nodes.specs.declared.limit.Info.{Info}
use Rattle.oplog_form.specs.declared.entry.Entry.{Entry}
use Rattle.oplog_form.specs.Entries.{entry_spelling}
use Rattle.oplog_file.specs.Files.{File, IsFile, next_frame, NoChance}
use Rattle.node_set.specs.Contents.{Content}
use Rattle.core_state.specs.Events.Event.{Append}
use Rattle.core_disk.specs.Areas.{Areas}
use Rattle.core_disk.specs.Standing.{StandsFor}
use Rattle.core_disk.specs.Firm.{StandsFirmly}
use Rattle.core_disk.specs.Cored.{IsNextBy}
use Rattle.hypercore_cli.specs.Proves.{HasTaken}
use Rattle.hypercore_cli.specs.Batches.{batches_of, closed_of, Grows}
use Rattle.hypercore_cli.specs.Appends.{AreFirst, HasMet, IsLongLine, ReadsAll, IsRefused}
use Rattle.hypercore_cli.specs.Cores.{NamedCore, StoodFor, IsOpened, RefusesOpening}
use Rattle.hypercore_cli.specs.Outcomes.{length_line}
use Rattle.hypercore_cli.specs.declared.outcome.Outcome.{Outcome}
use Rattle.hypercore_cli.specs.declared.outcome.Outcome.TheVariants.{Done, ReadFault, WriteFault, StoreFault, Limit, NoMemory}

-- ---- what the core's disk then stands for

-- these batches in turn make this of a content, and the core's disk stands for it now, as it reads and after each crash
pub record GrowsTo (c : NamedCore) (m : Content) (batches : List (List (List ℕ))) (after : Content) : Type 0 where
  pub grows : Grows c.accepts m batches after
  pub stands : StandsFirmly c.accepts c.id (c.new.disk c.id) after

-- these batches made the core grow: each content for which its disk stood
abbrev pub Grew : NamedCore → List (List (List ℕ)) → Type 0
Grew c batches = (m : Content) → StoodFor c m → (after : Content) × GrowsTo c m batches after

-- the same, and it then has so many blocks under this fork
abbrev pub GrewTo : NamedCore → List (List (List ℕ)) → Info → Type 0
GrewTo c batches info = (m : Content) → StoodFor c m → (after : Content) × GrowsTo c m batches after × (after.length ≡ info.length) × (after.fork ≡ info.fork)

-- the first of these batches did
abbrev pub GrewFirst : NamedCore → List (List (List ℕ)) → Type 0
GrewFirst c batches = (m : Content) → StoodFor c m
    → (done : List (List (List ℕ))) × (rest : List (List (List ℕ))) × (batches ≡ done ++ rest) × (after : Content) × GrowsTo c m done after

-- The first of these batches did; with the next one the log would pass a limit of its own, or its change file the most bytes of entries.
abbrev pub GrewToLimit : NamedCore → List (List (List ℕ)) → What → ℕ → Type 0
GrewToLimit c batches what max = (m : Content) → StoodFor c m
    → (done : List (List (List ℕ))) × (batch : List (List ℕ)) × (rest : List (List (List ℕ))) × (batches ≡ done ++ batch ∷ rest)
    × (after : Content) × GrowsTo c m done after × IsRefused c.accepts ((c.new.disk c.id).reads OplogArea) after batch what max

-- A batch failed in the disk: a crash leaves the content before it or the one after it, but for what makes frames by chance.
pub record IsLeft (c : NamedCore) (before : Content) (batch : List (List ℕ)) : Type 0 where
  pub after : Content
  pub entry : Entry
  pub follows : IsNextBy c.accepts before (Append batch) after entry
  pub oplog : List ℕ
  pub file : File
  pub is_file : IsFile oplog file
  pub images : (areas : Areas) → IsImage (c.new.disk c.id) (c.new.disk c.id).moment areas → NoChance (next_frame file (entry_spelling entry) ∷ []) oplog (areas OplogArea)
      → StandsFor c.accepts c.id areas before ⊎ StandsFor c.accepts c.id areas after

-- each crash leaves this content
abbrev pub EachLeaves : NamedCore → Content → Type 0
EachLeaves c m = (areas : Areas) → IsImage (c.new.disk c.id) (c.new.disk c.id).moment areas → StandsFor c.accepts c.id areas m

-- the disk failed in a batch behind the first ones of these
abbrev pub Broke : NamedCore → List (List (List ℕ)) → Type 0
Broke c batches = (m : Content) → StoodFor c m
    → (done : List (List (List ℕ))) × (batch : List (List ℕ)) × (rest : List (List (List ℕ))) × (batches ≡ done ++ batch ∷ rest)
    × (before : Content) × Grows c.accepts m done before × (EachLeaves c before ⊎ IsLeft c before batch)

-- ---- the ends

-- some of the input was taken, of which these are the first batches
abbrev pub HasFirst : SourceView → SourceView → List (List (List ℕ)) → Type 0
HasFirst input input_now batches = (bytes : List ℕ) × (ended : Bool) × HasTaken input input_now bytes ended × AreFirst bytes ended batches

-- a line was met that is longer than a block may be: the batches that were closed before it are in
abbrev pub MeetsLongLine : NamedCore → SourceView → SourceView → Type 0
MeetsLongLine c input input_now = (met : List (List ℕ)) × (front : List ℕ) × HasMet input input_now met front × IsLongLine front × Grew c (closed_of met)

-- the core refused a batch by a limit: those before it are in
abbrev pub MeetsLimit : NamedCore → SourceView → SourceView → What → ℕ → Type 0
MeetsLimit c input input_now what max = (batches : List (List (List ℕ))) × HasFirst input input_now batches × GrewToLimit c batches what max

-- memory was wanting: the first of the batches are in
abbrev pub Stops : NamedCore → SourceView → SourceView → Type 0
Stops c input input_now = (batches : List (List (List ℕ))) × HasFirst input input_now batches × GrewFirst c batches

-- how appending is refused once the core was opened
abbrev pub RefusesLines : NamedCore → SourceView → SourceView → Outcome → Type 0
RefusesLines c input input_now ReadFault = Rose input.faults input_now.faults
    × (met : List (List ℕ)) × (front : List ℕ) × HasMet input input_now met front × IsOpen MAX_BLOCK_BYTES front × Grew c (closed_of met)
RefusesLines c input input_now (Limit what max) = ((what ≡ Block) × (max ≡ MAX_BLOCK_BYTES) × MeetsLongLine c input input_now) ⊎ MeetsLimit c input input_now what max
RefusesLines c input input_now StoreFault = Rose c.old.faults c.new.faults
    × (batches : List (List (List ℕ))) × HasFirst input input_now batches × Broke c batches
RefusesLines c input input_now NoMemory = Stops c input input_now
RefusesLines c input input_now outcome = ⊥

-- the core was opened
abbrev pub WasOpened : NamedCore → Type 0
WasOpened c = (shown : Content) × IsOpened c shown

-- opening the core or appending is refused
abbrev pub RefusesAppend : NamedCore → SourceView → SourceView → Outcome → Type 0
RefusesAppend c input input_now outcome = RefusesOpening c outcome ⊎ (WasOpened c × RefusesLines c input input_now outcome)

-- the batches of the whole input are in, and the core then has so many blocks under this fork
abbrev pub AppendsAll : NamedCore → SourceView → SourceView → Info → Type 0
AppendsAll c input input_now info = WasOpened c × (bytes : List ℕ) × ReadsAll input input_now bytes × GrewTo c (batches_of (lines_of bytes)) info

-- the lines were appended, or not all
abbrev pub FillsTo : NamedCore → SourceView → SourceView → Result Info Outcome → Type 0
FillsTo c input input_now (Ok info) = AppendsAll c input input_now info
FillsTo c input input_now (Err outcome) = RefusesAppend c input input_now outcome

-- when each end of `append` comes, and what the output then has
abbrev pub ExtendsTo : NamedCore → SourceView → SourceView → SinkView → SinkView → Outcome → Type 0
ExtendsTo c input input_now output output_now Done = (info : Info) × AppendsAll c input input_now info × Appends output.holds output_now.holds (length_line info.length info.fork)
ExtendsTo c input input_now output output_now WriteFault = Rose output.faults output_now.faults
    × (info : Info) × AppendsAll c input input_now info × AppendsFront output.holds output_now.holds (length_line info.length info.fork)
ExtendsTo c input input_now output output_now outcome = RefusesAppend c input input_now outcome × Keeps output.holds output_now.holds
