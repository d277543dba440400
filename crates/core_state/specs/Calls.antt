-- What a call of a core promises: what follows its event, or a fault that no content tells of; and what every core keeps,
-- whatever its disk gives.
use Rattle.std.specs.Prelude.{◌≡◌, ◌≢◌, ℕ, Bool, true, false, ◌≤◌, ◌⊎◌, IsTrue, Option, Some, None, Ok, Err}
use Rattle.outside_traits.specs.Faults.{Rose}
use Rattle.flat_tree.specs.declared.limits.TheConstants.{MAX_SIBLINGS, MAX_BLOCK_BYTES}
use Rattle.bit_field.specs.declared.page.TheConstants.{PAGE_BYTES}
use Rattle.commit_book.specs.declared.commit.Commit.{Commit}
use Rattle.merkle_nodes.specs.declared.limit.What.TheVariants.{Oplog}
use Rattle.merkle_nodes.specs.Fold.{Proves}
use Rattle.proof_form.specs.Requests.{RequestFits}
use Rattle.proof_form.specs.Proofs.{ProofFits}
use Rattle.node_set.specs.declared.fault.CoreFault.{CoreFault}
use Rattle.node_set.specs.declared.fault.CoreFault.TheVariants.{Memory, Broken, StoreFault, BadStore, Damaged, Limit}
use Rattle.node_set.specs.Contents.{Content, roots}
use Rattle.node_set.specs.Whole.{IsWhole}
pub use Rattle.node_set.specs.Legal.{core_limits, KeepsHistory}
use Rattle.proof_check.specs.Admission.{IsPlain}
use Rattle.core_state.specs.Events.{Event, Reply}
use Rattle.core_state.specs.Events.Event.{Head, Append, Truncate, Clear, Admit, Make, Get, Need, Page}
use Rattle.core_state.specs.Events.Reply.{Done, Made, Read, Number, Bits}
use Rattle.core_state.specs.States.{CoreState}
use Rattle.core_state.specs.Next.{Next}

-- the fault that a reply has
abbrev pub fault_in : Reply → Option CoreFault
fault_in (Done (Err fault)) = Some fault
fault_in (Made (Err fault)) = Some fault
fault_in (Read (Err fault)) = Some fault
fault_in (Number (Err fault)) = Some fault
fault_in (Bits (Err fault)) = Some fault
fault_in reply = None

-- the commit that a reply has
abbrev pub commit_in : Reply → Option Commit
commit_in (Done (Ok receipt)) = receipt.commit
commit_in reply = None

-- a fault that a read may answer beside its refusals: the core is broken, the outside failed, or what is stored isn't the
-- core's
abbrev pub IsReadFault : CoreState → CoreState → CoreFault → Type 0
IsReadFault old new (Broken count) = old.broken ≡ Some count
IsReadFault old new StoreFault = Rose old.faults new.faults
IsReadFault old new (BadStore area at) = old.stands ≡ false
IsReadFault old new (Damaged place want have) = old.stands ≡ false
IsReadFault old new fault = ⊥

-- a change may also find no memory, where the core takes some, or no room for its commit
abbrev pub IsChangeFault : Bool → CoreState → CoreState → CoreFault → Type 0
IsChangeFault takes old new Memory = IsTrue takes
IsChangeFault takes old new (Limit Oplog max) = IsTrue old.fills
IsChangeFault takes old new fault = IsReadFault old new fault

-- a fault that no content tells of
abbrev pub IsOwnFault : Bool → CoreState → Event → CoreState → CoreFault → Type 0
IsOwnFault takes old (Append more) new fault = IsChangeFault takes old new fault
IsOwnFault takes old (Truncate to fork) new fault = IsChangeFault takes old new fault
IsOwnFault takes old (Clear from to) new fault = IsChangeFault takes old new fault
IsOwnFault takes old (Admit p) new fault = IsChangeFault takes old new fault
IsOwnFault takes old event new fault = IsReadFault old new fault

-- such a fault was answered, and the content is as it was
pub record Fails (takes : Bool) (old : CoreState) (event : Event) (new : CoreState) (reply : Reply) : Type 0 where
  pub fault : CoreFault
  pub answered : fault_in reply ≡ Some fault
  pub own : IsOwnFault takes old event new fault
  pub content : new.content ≡ old.content

-- a block that is read is proved under the roots, a proof is within its ranges, and no more siblings are needed than a path has
abbrev pub IsSafe : Content → Event → Reply → Type 0
IsSafe m (Get index) (Read (Ok answer)) = Proves m.length (roots m) index answer.block answer.trail
IsSafe m (Make request) (Made (Ok proof)) = ProofFits proof
IsSafe m (Need index) (Number (Ok number)) = number ≤ MAX_SIBLINGS
IsSafe m event reply = Unit {0}

-- the event changes the core's content
abbrev pub is_change : Event → Bool
is_change (Append more) = true
is_change (Truncate to fork) = true
is_change (Clear from to) = true
is_change (Admit p) = true
is_change event = false

-- the core stands as before, or it broke and its content stayed
abbrev pub StaysUp : CoreState → CoreState → Type 0
StaysUp old new = IsTrue new.stands ⊎ ((count : ℕ) × (new.broken ≡ Some count) × (new.content ≡ old.content))

-- one call of a core
pub record Acts (takes : Bool) (old : CoreState) (event : Event) (new : CoreState) (reply : Reply) : Type 0 where
  -- the verifier and the kind of the core stay
  pub accepts : new.accepts ≡ old.accepts
  pub fills : new.fills ≡ old.fills
  -- no fault is forgotten, and a core breaks only in one, and only where it is to change
  pub faults : old.faults ≤ new.faults
  pub breaks : (new.broken ≡ old.broken) ⊎ (IsTrue (is_change event) × Rose old.faults new.faults)
  -- of a core that stands: what follows the event, or a fault of its own
  pub next : IsTrue old.stands → Next old.accepts old.content event new.content reply ⊎ Fails takes old event new reply
  pub stands : IsTrue old.stands → old.broken ≡ None → StaysUp old new
  -- one that stands has a whole content
  pub whole : IsTrue new.stands → IsWhole new.accepts new.content
  -- of every core: a legal history, proved blocks, and once broken, always so, with no other answer but the head's
  pub history : KeepsHistory old.content new.content (commit_in reply)
  pub safe : IsSafe old.content event reply
  pub broken : (count : ℕ) → old.broken ≡ Some count → (new.broken ≡ Some count) × (new.content ≡ old.content) × (commit_in reply ≡ None)
      × (event ≢ Head → fault_in reply ≡ Some (Broken count))

-- what an event needs, with a place of so many bytes: room for the largest block, or for a page; a request within its ranges; and
-- so far a proof without a node or a sought byte
abbrev pub Needs : Event → ℕ → Type 0
Needs (Admit p) room = IsPlain p
Needs (Make request) room = RequestFits request × (MAX_BLOCK_BYTES ≤ room)
Needs (Get index) room = MAX_BLOCK_BYTES ≤ room
Needs (Page number) room = PAGE_BYTES ≤ room
Needs event room = Unit {0}
