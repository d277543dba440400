-- What `get` may do: how each end of it comes about.
use Rattle.std.specs.Prelude.{◌≡◌, ◌⊎◌, ℕ, List, take, None, Result, Ok, Err, IsTrue}
use Rattle.std.specs.Io.KnownBytes.{Keeps, Appends}
use Rattle.outside_traits.specs.Faults.{Rose}
use Rattle.outside_traits.specs.Streams.{SinkView, AppendsFront}
use Rattle.disk_trait.specs.declared.disk.Area.TheVariants.{Tree}
use Rattle.merkle_nodes.specs.Fold.{Proves}
use Rattle.node_set.specs.declared.fault.CoreFault.{CoreFault}
use Rattle.node_set.specs.declared.fault.CoreFault.TheVariants.{OutOfRange as PassesEnd, Unavailable as IsNotHeld, Damaged as IsDamaged}
use Rattle.node_set.specs.Contents.{Content, held, roots}
use Rattle.core_snap.specs.Reads.{Answer, get_of, read_of}
use Rattle.core_snap.specs.Causes.{read_refusal, IsDamageUnder}
use Rattle.core_disk.specs.Laid.{SizesFit}
use Rattle.core_disk.specs.Fitting.{IsUnfitRecord}
use Rattle.core_disk.specs.Reading.{IsReadRefusal}
use Rattle.hypercore_cli.specs.Cores.{NamedCore, StoodFor, IsOpened, RefusesOpening}
use Rattle.hypercore_cli.specs.declared.outcome.Outcome.{Outcome}
use Rattle.hypercore_cli.specs.declared.outcome.Outcome.TheVariants.{Done, WriteFault, StoreFault, OutOfRange, Unavailable, BadStore, Damaged}

-- The core was opened, and a read of the index answered what each content does for which its disk stood; and, where the disk tells and no node
-- is too large, what the areas gave, with each hash recomputed.
pub record Reads (c : NamedCore) (index : ℕ) (answer : Result Answer CoreFault) : Type 0 where
  pub shown : Content
  pub opened : IsOpened c shown
  pub content : (m : Content) → StoodFor c m → get_of m index ≡ answer
  pub kept : IsTrue c.old.honest → SizesFit shown.node → read_of shown index ≡ answer

-- a block was read, which over every shelf and disk is held where it was opened, and proved under the head that was
pub record ReadsBlock (c : NamedCore) (index : ℕ) (answer : Answer) : Type 0 where
  pub reads : Reads c index (Ok answer)
  pub unrefused : read_refusal reads.shown.length (held reads.shown) index ≡ None
  pub proved : Proves reads.shown.length (roots reads.shown) index answer.block answer.trail

-- none was, since over every shelf and disk the index isn't below the length that was opened, or its block isn't held there
pub record ReadsNone (c : NamedCore) (index : ℕ) (fault : CoreFault) : Type 0 where
  pub reads : Reads c index (Err fault)
  pub refused : IsReadRefusal reads.shown index fault

-- the core was opened, where the block of the index is held, and then this was found in its disk, which stood for no content
pub record ReadsUnfit (c : NamedCore) (index : ℕ) (IsFound : Content → Type 0) : Type 0 where
  pub shown : Content
  pub opened : IsOpened c shown
  pub unrefused : read_refusal shown.length (held shown) index ≡ None
  pub found : IsFound shown
  pub none : (m : Content) → StoodFor c m → ⊥

-- What is kept of the block or at the root over it isn't of the bytes that were read; and where the disk tells and no node is too large, these
-- are those that the areas gave.
pub record IsFoundDamaged (c : NamedCore) (index : ℕ) (fault : CoreFault) (shown : Content) : Type 0 where
  pub place : List ℕ
  pub differs : IsDamageUnder (roots shown) shown.length index place fault
  pub kept : IsTrue c.old.honest → SizesFit shown.node → read_of shown index ≡ Err fault

-- how a read of the index is refused once the core was opened
abbrev pub RefusesRead : NamedCore → ℕ → Outcome → Type 0
RefusesRead c index StoreFault = Rose c.old.faults c.new.faults
RefusesRead c index (OutOfRange end) = ReadsNone c index (PassesEnd end)
RefusesRead c index (Unavailable at) = ReadsNone c index (IsNotHeld at)
RefusesRead c index (BadStore Tree at) = ReadsUnfit c index (λ shown. IsUnfitRecord shown at)
RefusesRead c index (Damaged place want have) = ReadsUnfit c index (IsFoundDamaged c index (IsDamaged place want have))
RefusesRead c index outcome = ⊥

-- the block of the index was read to the front of a place, or opening the core or the read was refused
abbrev pub ReadsTo : NamedCore → ℕ → List ℕ → Result ℕ Outcome → Type 0
ReadsTo c index place (Ok len) = (answer : Answer) × ReadsBlock c index answer × (answer.block ≡ take len place)
ReadsTo c index place (Err outcome) = RefusesOpening c outcome ⊎ RefusesRead c index outcome

-- when each end of `get` comes, and what the output then has
abbrev pub GetsTo : NamedCore → ℕ → SinkView → SinkView → Outcome → Type 0
GetsTo c index output output_now Done = (answer : Answer) × ReadsBlock c index answer × Appends output.holds output_now.holds answer.block
GetsTo c index output output_now WriteFault = Rose output.faults output_now.faults
    × (answer : Answer) × ReadsBlock c index answer × AppendsFront output.holds output_now.holds answer.block
GetsTo c index output output_now outcome = (RefusesOpening c outcome ⊎ RefusesRead c index outcome) × Keeps output.holds output_now.holds
