-- What appending the lines of an input does to a core: how each end of it comes about, and what a core on a firm disk then has.
use Rattle.std.specs.Prelude.{◌≡◌, ◌≢◌, ℕ, ◌+◌, ◌<◌, ◌≤◌, Bool, if◌then◌else◌, List, [], ◌∷◌, ◌++◌, length, take, None, Some, Result, Ok, Err, IsTrue, OnOk, IsErrOf, ◌⊎◌, ⊤}
use Rattle.std.specs.List.{AllByRecursion}
use Rattle.std.specs.Io.KnownBytes.{Consumes, IsAtEnd}
use Rattle.outside_traits.specs.Faults.{Rose}
use Rattle.outside_traits.specs.Streams.{SourceView}
use Rattle.outside_traits.specs.Lines.{IsOpen, HasNoFeed, lines_of}
use Rattle.flat_tree.specs.declared.limits.TheConstants.{MAX_BLOCK_BYTES, MAX_BATCH_BLOCKS, MAX_BATCH_BYTES}
use Rattle.disk_trait.specs.declared.disk.Area.TheVariants.{Oplog as OplogArea}
use Rattle.disk_trait.specs.Disk.{DiskView}
use Rattle.disk_trait.specs.Runs.{LeavesOnly}
use Rattle.node_set.specs.declared.fault.CoreFault.{CoreFault}
use Rattle.node_set.specs.declared.fault.CoreFault.TheVariants.{Memory, StoreFault, Limit}
use Rattle.node_set.specs.Contents.{Content}
use Rattle.merkle_nodes.specs.declared.limit.What.{What}
use Rattle.merkle_nodes.specs.declared.limit.What.TheVariants.{Oplog as EntriesBytes}
use Rattle.merkle_batch.specs.Honest.{BlockFits}
use Rattle.oplog_file.specs.declared.layout.TheConstants.{MAX_ENTRIES_BYTES}
use Rattle.oplog_file.specs.Counting.{bytes_of}
use Rattle.oplog_file.specs.Files.{File, IsFile}
use Rattle.core_state.specs.Refusals.{append_refusal}
use Rattle.core_state.specs.Events.Event.{Append}
use Rattle.core_disk.specs.Standing.{StandsFor}
use Rattle.core_disk.specs.Firm.{IsFirmFor}
use Rattle.core_disk.specs.Cored.{Cored, shown, disk_under, IsBetween, LacksRoom}
use Rattle.hypercore_cli.specs.Proves.{HasTaken}
use Rattle.hypercore_cli.specs.Batches.{is_full_for, batches_of, closed_of, Grows}
use Rattle.hypercore_cli.specs.declared.batches.AppendFault.{AppendFault}
use Rattle.hypercore_cli.specs.declared.batches.AppendFault.TheVariants.{ReadFault, TooLong, Core}

-- ---- what was read

-- whatever follows the bytes, and nothing where they end the input, its batches begin with these
abbrev pub AreFirst : List ℕ → Bool → List (List (List ℕ)) → Type 0
AreFirst bytes ended batches = (left : List ℕ) → (IsTrue ended → left ≡ [])
    → (rest : List (List (List ℕ))) × (batches_of (lines_of (bytes ++ left)) ≡ batches ++ rest)

-- these lines of the input were met, each no longer than a block may be, and then the front of what is left
pub record HasMet (input input_now : SourceView) (met : List (List ℕ)) (front : List ℕ) : Type 0 where
  pub bytes : List ℕ
  pub ended : Bool
  pub taken : HasTaken input input_now bytes ended
  pub lines : (left : List ℕ) → (IsTrue ended → left ≡ []) → lines_of (bytes ++ left) ≡ met ++ lines_of (front ++ left)
  pub fit : AllByRecursion BlockFits met
  pub closed : AreFirst bytes ended (closed_of met)

-- a line begins with these bytes, and is longer than a block may be
pub record IsLongLine (front : List ℕ) : Type 0 where
  pub long : MAX_BLOCK_BYTES < length front
  pub no_feed : HasNoFeed (take (MAX_BLOCK_BYTES + 1) front)

-- these bytes are all that the input had left, and none of their lines is longer than a block may be
pub record ReadsAll (input input_now : SourceView) (bytes : List ℕ) : Type 0 where
  pub told : Consumes input.left input_now.left bytes
  pub at_end : IsAtEnd input_now.left
  pub fit : AllByRecursion BlockFits (lines_of bytes)

-- ---- what the core then has

-- the authority stays, and whether the disk is honest, and no fault is forgotten
pub record KeepsCore {D A : Type 0} (disk : D → DiskView) (core now : Cored D A) : Type 0 where
  pub auth : now.auth ≡ core.auth
  pub honest : (disk_under disk now).honest ≡ (disk_under disk core).honest
  pub faults : (disk_under disk core).faults ≤ (disk_under disk now).faults

-- no change of the core failed, and a crash can't take from its disk what it shows
pub record IsFirm {D A : Type 0} (disk : D → DiskView) (accepts : A → List ℕ → List ℕ → Bool) (id : List ℕ) (core : Cored D A) : Type 0 where
  pub honest : IsTrue (disk_under disk core).honest
  pub unbroken : core.broken ≡ None
  pub firm : IsFirmFor (accepts core.auth) id (disk_under disk core) core.place (shown disk core)

-- the core shows what its content was after these batches, and a crash can't take it
pub record HasGrown {D A : Type 0} (disk : D → DiskView) (accepts : A → List ℕ → List ℕ → Bool) (id : List ℕ) (batches : List (List (List ℕ))) (core now : Cored D A) : Type 0 where
  pub grows : Grows (accepts core.auth) (shown disk core) batches (shown disk now)
  pub firm : IsFirm disk accepts id now

-- The disk failed in a batch behind these: at each moment since then a crash leaves the content after these, or that or the one after the
-- batch.
pub record BreaksIn {D A : Type 0} (disk : D → DiskView) (accepts : A → List ℕ → List ℕ → Bool) (id : List ℕ) (batches : List (List (List ℕ))) (batch : List (List ℕ)) (core now : Cored D A) : Type 0 where
  pub before : Cored D A
  pub keeps : KeepsCore disk core before
  pub grown : HasGrown disk accepts id batches core before
  pub any_moment : LeavesOnly (disk_under disk before) (disk_under disk now) (λ areas. StandsFor (accepts core.auth) id areas (shown disk before))
      ⊎ IsBetween (accepts core.auth) id (shown disk before) (Append batch) (disk_under disk before) (disk_under disk now)

-- the disk failed in one of the batches
abbrev pub BreaksAmong : {D A : Type 0} → (D → DiskView) → (A → List ℕ → List ℕ → Bool) → List ℕ → List (List (List ℕ)) → Cored D A → Cored D A → Type 0
BreaksAmong disk accepts id batches core now =
    (done : List (List (List ℕ))) × (batch : List (List ℕ)) × (rest : List (List (List ℕ))) × (batches ≡ done ++ batch ∷ rest)
    × BreaksIn disk accepts id done batch core now

-- the core has grown by the first ones
abbrev pub StopsAmong : {D A : Type 0} → (D → DiskView) → (A → List ℕ → List ℕ → Bool) → List ℕ → List (List (List ℕ)) → Cored D A → Cored D A → Type 0
StopsAmong disk accepts id batches core now =
    (done : List (List (List ℕ))) × (rest : List (List (List ℕ))) × (batches ≡ done ++ rest) × HasGrown disk accepts id done core now

-- the entry of a batch finds no room in this change file
pub record FindsItFull (accepts : List ℕ → List ℕ → Bool) (oplog : List ℕ) (m : Content) (batch : List (List ℕ)) : Type 0 where
  pub file : File
  pub is_file : IsFile oplog file
  pub room : LacksRoom accepts m (Append batch) (bytes_of file.frames)

-- with this batch the log would pass a limit of its own, or its change file the most bytes of entries
abbrev pub IsRefused : (List ℕ → List ℕ → Bool) → List ℕ → Content → List (List ℕ) → What → ℕ → Type 0
IsRefused accepts oplog m batch what max = (append_refusal m batch ≡ Some (Limit what max))
    ⊎ ((what ≡ EntriesBytes) × (max ≡ MAX_ENTRIES_BYTES) × FindsItFull accepts oplog m batch)

-- the core refused one of the batches, and has grown by those before it
abbrev pub RefusesAmong : {D A : Type 0} → (D → DiskView) → (A → List ℕ → List ℕ → Bool) → List ℕ → List (List (List ℕ)) → Cored D A → Cored D A
    → What → ℕ → Type 0
RefusesAmong disk accepts id batches core now what max =
    (done : List (List (List ℕ))) × (batch : List (List ℕ)) × (rest : List (List (List ℕ))) × (batches ≡ done ++ batch ∷ rest)
    × HasGrown disk accepts id done core now × IsRefused (accepts now.auth) ((disk_under disk now).reads OplogArea) (shown disk now) batch what max

-- why a firm core stops: no memory, the disk, or a limit; no other fault comes
abbrev pub TellsWhy : {D A : Type 0} → (D → DiskView) → (A → List ℕ → List ℕ → Bool) → List ℕ → List (List (List ℕ)) → Cored D A → Cored D A
    → CoreFault → Type 0
TellsWhy disk accepts id batches core now Memory = ⊤
TellsWhy disk accepts id batches core now StoreFault = ⊤
TellsWhy disk accepts id batches core now (Limit what max) = RefusesAmong disk accepts id batches core now what max
TellsWhy disk accepts id batches core now fault = ⊥

-- a firm core once batches were to be committed in turn: each was, or the disk failed in one, or the core stopped behind the first ones
abbrev pub Ends : {D A : Type 0} → (D → DiskView) → (A → List ℕ → List ℕ → Bool) → List ℕ → List (List (List ℕ)) → Cored D A → Cored D A
    → Result (Unit {0}) CoreFault → Type 0
Ends disk accepts id batches core now (Ok _) = HasGrown disk accepts id batches core now
Ends disk accepts id batches core now (Err fault) =
    (fault ≡ StoreFault → BreaksAmong disk accepts id batches core now) × (fault ≢ StoreFault → StopsAmong disk accepts id batches core now)
    × TellsWhy disk accepts id batches core now fault

-- Batches were committed in turn, up to the first that the core refused or failed in. It fails by its disk only where the disk's count
-- of faults rose.
pub record Commits {D A : Type 0} (disk : D → DiskView) (accepts : A → List ℕ → List ℕ → Bool) (batches : List (List (List ℕ))) (core now : Cored D A) (answer : Result (Unit {0}) CoreFault) : Type 0 where
  pub keeps : KeepsCore disk core now
  pub rose : IsErrOf answer StoreFault → Rose (disk_under disk core).faults (disk_under disk now).faults
  pub firm : (id : List ℕ) → IsFirm disk accepts id core → Ends disk accepts id batches core now answer

-- When each end of appending the lines of an input comes, and what was committed: all of its batches; or those that were closed before
-- the read or the line that was refused; or those before the one in which the core stopped.
abbrev pub AppendsTo : {D A : Type 0} → (D → DiskView) → (A → List ℕ → List ℕ → Bool) → SourceView → SourceView → Cored D A → Cored D A
    → Result (Unit {0}) AppendFault → Type 0
AppendsTo disk accepts input input_now core now (Ok done) =
    (bytes : List ℕ) × ReadsAll input input_now bytes × Commits disk accepts (batches_of (lines_of bytes)) core now (Ok done)
AppendsTo disk accepts input input_now core now (Err ReadFault) =
    Rose input.faults input_now.faults × (met : List (List ℕ)) × (front : List ℕ) × HasMet input input_now met front
    × IsOpen MAX_BLOCK_BYTES front × Commits disk accepts (closed_of met) core now (Ok tt)
AppendsTo disk accepts input input_now core now (Err TooLong) =
    (met : List (List ℕ)) × (front : List ℕ) × HasMet input input_now met front
    × IsLongLine front × Commits disk accepts (closed_of met) core now (Ok tt)
AppendsTo disk accepts input input_now core now (Err (Core fault)) =
    (bytes : List ℕ) × (ended : Bool) × HasTaken input input_now bytes ended
    × (batches : List (List (List ℕ))) × AreFirst bytes ended batches × Commits disk accepts batches core now (Err fault)

-- ---- one line more

-- the batches that a line closes
abbrev pub closed_by : List (List ℕ) → List ℕ → List (List (List ℕ))
closed_by batch line = if is_full_for MAX_BATCH_BLOCKS MAX_BATCH_BYTES batch line then batch ∷ [] else []

-- the batch that is open behind it
abbrev pub opened_by : List (List ℕ) → List ℕ → List (List ℕ)
opened_by batch line = if is_full_for MAX_BATCH_BLOCKS MAX_BATCH_BYTES batch line then line ∷ [] else batch ++ line ∷ []

-- a line is taken into the open batch, or into the next one, once that was committed
pub record TakesLine {D A : Type 0} (disk : D → DiskView) (accepts : A → List ℕ → List ℕ → Bool) (core now : Cored D A) (batch batch_now : List (List ℕ)) (line : List ℕ) (answer : Result (Unit {0}) CoreFault) : Type 0 where
  pub commits : Commits disk accepts (closed_by batch line) core now answer
  pub opened : OnOk answer (batch_now ≡ opened_by batch line)
