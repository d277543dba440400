-- The core of a name in a run, and what each command that names one does to the shelf.
use Rattle.std.specs.Prelude.{◌≡◌, ℕ, Bool, true, false, List, Ok, Err, IsTrue}
use Rattle.disk_trait.specs.declared.disk.Area.TheVariants.{Blocks}
use Rattle.oplog_file.specs.Writers.{Place}
use Rattle.outside_traits.specs.Faults.{Rose}
use Rattle.node_set.specs.declared.fault.CoreFault.{CoreFault}
use Rattle.node_set.specs.declared.fault.CoreFault.TheVariants.{BadStore as IsBadStore, Damaged as IsDamaged, BadSignature as IsUnsigned}
use Rattle.node_set.specs.Contents.{Content}
use Rattle.core_disk.specs.InHand.{InHand, opened_of}
use Rattle.core_disk.specs.Laid.{content_in}
use Rattle.core_disk.specs.Standing.{StandsFor}
use Rattle.core_disk.specs.Firm.{StandsFirmly}
use Rattle.core_disk.specs.Parts.{OpensStore}
use Rattle.core_disk.specs.Handed.{HasAcceptedHead}
use Rattle.core_shelf.specs.Shelf.{ShelfView, Others}
use Rattle.core_shelf.specs.Named.{key_of, id_of, IsHome, KeepsOthers}
use Rattle.hypercore_cli.specs.declared.outcome.Outcome.{Outcome}
use Rattle.hypercore_cli.specs.declared.outcome.Outcome.TheVariants.{StoreFault, BadSignature, NoCore, BadStore, Damaged, NoMemory}

-- the core of a name: what its authority accepts, its id, and the shelf before and after
pub record NamedCore : Type 1 where
  pub accepts : List ℕ → List ℕ → Bool
  pub id : List ℕ
  pub old : ShelfView
  pub new : ShelfView

-- the core of a name under a key
abbrev pub core_of : (List ℕ → List ℕ → List ℕ → Bool) → (List ℕ → List ℕ) → List ℕ → List ℕ → ShelfView → ShelfView → NamedCore
core_of accepts public key name old new = record { accepts = accepts (key_of key name); id = id_of public key name; old = old; new = new }

-- Every other id's disk is as it was, in or out and on the list as it was; and the core's disk is on the shelf.
pub record KeepsRest (c : NamedCore) : Type 0 where
  pub others : KeepsOthers c.id c.old c.new
  pub list : IsTrue c.old.honest → Others c.id (λ other. c.new.marked other ≡ c.old.marked other)
  pub home : IsHome c.id c.new

-- the core is on the list where it was
abbrev pub KeepsMark : NamedCore → Type 0
KeepsMark c = IsTrue c.old.honest → c.new.marked c.id ≡ c.old.marked c.id

-- the core was on the list, as far as the shelf tells
abbrev pub WasListed : NamedCore → Type 0
WasListed c = IsTrue c.old.honest → c.old.marked c.id ≡ true

-- it wasn't
abbrev pub WasUnlisted : NamedCore → Type 0
WasUnlisted c = IsTrue c.old.honest → c.old.marked c.id ≡ false

-- the core's disk stood for this content, as it read
pub record StoodFor (c : NamedCore) (m : Content) : Type 0 where
  pub honest : IsTrue c.old.honest
  pub reads : StandsFor c.accepts c.id (c.old.disk c.id).reads m

-- the core's disk stands for this content now, as it reads and after each crash
abbrev pub StandsNow : NamedCore → Content → Type 0
StandsNow c m = IsTrue c.old.honest → StandsFirmly c.accepts c.id (c.new.disk c.id) m

-- ---- opening

-- the areas of the core's disk gave this content when they were opened, agreeing or not
abbrev pub Gave : NamedCore → Content → Type 0
Gave c m = (place : Place) × (hand : InHand) × OpensStore c.accepts c.id (c.old.disk c.id).reads (Ok (place, hand))
    × (content_in ((c.old.disk c.id).reads Blocks) (opened_of hand) ≡ m)

-- The core was opened and shows this content, under a head that its authority accepts, or that was never signed.
pub record IsOpened (c : NamedCore) (shown : Content) : Type 0 where
  pub listed : WasListed c
  pub accepted : HasAcceptedHead c.accepts shown
  pub gave : IsTrue c.old.honest → Gave c shown

-- the core wasn't opened, by the first fault of its areas: its disk stood for no content
pub record IsUnfit (c : NamedCore) (fault : CoreFault) : Type 0 where
  pub listed : WasListed c
  pub opens : IsTrue c.old.honest → OpensStore c.accepts c.id (c.old.disk c.id).reads (Err fault)
  pub none : (m : Content) → StoodFor c m → ⊥

-- the core's disk stands firmly for each content for which it did
abbrev pub KeepsContent : NamedCore → Type 0
KeepsContent c = (m : Content) → IsTrue c.old.honest → StandsFirmly c.accepts c.id (c.old.disk c.id) m → StandsFirmly c.accepts c.id (c.new.disk c.id) m

-- how opening a core is refused
abbrev pub RefusesOpening : NamedCore → Outcome → Type 0
RefusesOpening c NoCore = WasUnlisted c × KeepsContent c
RefusesOpening c StoreFault = Rose c.old.faults c.new.faults × KeepsContent c
RefusesOpening c (BadStore area at) = IsUnfit c (IsBadStore area at)
RefusesOpening c (Damaged place want have) = IsUnfit c (IsDamaged place want have)
RefusesOpening c BadSignature = IsUnfit c IsUnsigned
RefusesOpening c NoMemory = KeepsContent c
RefusesOpening c outcome = ⊥
