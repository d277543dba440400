-- What a call of a core promises, of every core, and of one that stands.
use Rattle.std.specs.Prelude.{◌≡◌, ◌≢◌, ℕ, Bool, true, false, ◌≤◌, ◌⊎◌, ⊤, IsTrue, IfSome, List, take, Some, None, Result, Ok, Err}
use Rattle.outside_traits.specs.Faults.{Rose}
use Rattle.flat_tree.specs.declared.limits.TheConstants.{MAX_SIBLINGS, MAX_BLOCKS, MAX_BLOCK_BYTES}
use Rattle.bit_field.specs.declared.page.TheConstants.{PAGE_BYTES}
use Rattle.bit_field.specs.Pages.{page_of}
use Rattle.merkle_nodes.specs.declared.limit.What.TheVariants.{Oplog}
use Rattle.merkle_nodes.specs.Fold.{Proves}
use Rattle.merkle_nodes.specs.Roots.{HasShape}
use Rattle.proof_form.specs.Requests.{RequestFits}
use Rattle.proof_form.specs.Proofs.{ProofFits}
use Rattle.node_set.specs.declared.fault.CoreFault.{CoreFault}
use Rattle.node_set.specs.declared.fault.CoreFault.TheVariants.{Memory, Broken, StoreFault, Limit, Unavailable, NoByte, NoReply, Refused}
use Rattle.node_set.specs.declared.fault.Refusal.{Refusal}
use Rattle.merkle_nodes.specs.declared.node.Node.{Node}
use Rattle.node_set.specs.Contents.{Content, held, roots}
use Rattle.node_set.specs.Walks.{IsFirstStored}
use Rattle.node_set.specs.Legal.{KeepsHistory}
use Rattle.core_forks.specs.Refusals.{truncate_refusal, clear_refusal}
use Rattle.core_snap.specs.declared.snapshot.ReadAt.{ReadAt as ReadAtInMemory}
use Rattle.core_snap.specs.Causes.{read_refusal}
use Rattle.core_snap.specs.Reads.{Answer}
use Rattle.log_view.specs.Views.{Source, Keeps}
use Rattle.snap_reads.specs.Reads.{IsDamage, LacksRootOver}
use Rattle.log_core.specs.Events.{Event, Reply, is_change, fault_in, commit_in}
use Rattle.log_core.specs.Events.Event.{Head, Snap, Append, Truncate, Clear, Admit, Get, Seek, ReadAt, Make, Need, Page}
use Rattle.log_core.specs.Events.Reply.{Short, Taken, Done, Read, Found, Made, Number, Bits}
use Rattle.log_core.specs.States.{CoreState, content_of, Stands, info_of, snapshot_of, receipt_of}
use Rattle.log_core.specs.Refusals.{append_refusal, need_refusal, seek_refusal}
use Rattle.log_core.specs.Next.{Next}

-- the reply is one to such an event
abbrev pub IsReplyTo : Event → Reply → Type 0
IsReplyTo Head (Short info) = ⊤
IsReplyTo Snap (Taken snap) = ⊤
IsReplyTo (Append more) (Done answer) = ⊤
IsReplyTo (Truncate to fork) (Done answer) = ⊤
IsReplyTo (Clear from to) (Done answer) = ⊤
IsReplyTo (Admit p) (Done answer) = ⊤
IsReplyTo (Get index) (Read answer) = ⊤
IsReplyTo (Seek byte) (Found answer) = ⊤
IsReplyTo (ReadAt snap index) (Read answer) = ⊤
IsReplyTo (Make request) (Made answer) = ⊤
IsReplyTo (Need index) (Number answer) = ⊤
IsReplyTo (Page number) (Bits answer) = ⊤
IsReplyTo event reply = ⊥

-- the log gave a block that isn't under the roots of so many blocks
abbrev pub GaveDamage : Source → List Node → ℕ → ℕ → CoreFault → Type 0
GaveDamage s nodes blocks index fault = (buffer : List ℕ) × IsDamage s nodes blocks index buffer fault

-- the event is refused so, which the head and the held indices decide, but for a proof; or what was read of the log is damaged
abbrev pub Refuses : Source → Event → CoreFault → Type 0
Refuses s (Append more) fault = append_refusal s.content more ≡ Some fault
Refuses s (Truncate to fork) fault = truncate_refusal s.content to fork ≡ Some fault
Refuses s (Clear from to) fault = clear_refusal s.content from to ≡ Some fault
Refuses s (Admit p) fault = (refusal : Refusal) × (fault ≡ Refused refusal)
Refuses s (Get index) fault = (read_refusal s.content.length (held s.content) index ≡ Some fault)
    ⊎ GaveDamage s (roots s.content) s.content.length index fault
Refuses s (Seek byte) fault = (seek_refusal s.content byte ≡ Some fault) ⊎ (fault ≡ NoByte byte)
Refuses s (ReadAt snap index) fault = (read_refusal snap.length (held s.content) index ≡ Some fault)
    ⊎ (((fault ≡ Unavailable index) × LacksRootOver s snap.roots snap.length index) ⊎ GaveDamage s snap.roots snap.length index fault)
Refuses s (Make request) fault = fault ≡ NoReply
Refuses s (Need index) fault = need_refusal s.content index ≡ Some fault
Refuses s event fault = ⊥

-- why a core answers a fault: it is broken; its store failed in this call; a change found no memory, or no more capacity in the area of
-- commits; or the event is refused, or its log reported this
abbrev pub HasReason : Bool → CoreState → Event → CoreState → CoreFault → Type 0
HasReason takes old event new (Broken count) = old.broken ≡ Some count
HasReason takes old event new StoreFault = Rose old.view.faults new.view.faults
HasReason takes old event new Memory = IsTrue takes × IsTrue (is_change event)
HasReason takes old event new (Limit Oplog max) = IsTrue old.fills × IsTrue (is_change event)
HasReason takes old event new fault = Refuses old.view.source event fault ⊎ (old.view.source.reports fault ≡ true)

-- what an answer says of every core: the head; a block that is proved under the roots; a proof within its ranges; the levels up to the
-- first stored node; which blocks are held; the head after a change
abbrev pub IsSafe : Content → Event → Content → Reply → Type 0
IsSafe m Head after (Short info) = info ≡ info_of m
IsSafe m Snap after (Taken snap) = snap ≡ snapshot_of m
IsSafe m (Get index) after (Read (Ok answer)) = Proves m.length (roots m) index answer.block answer.trail
IsSafe m (ReadAt snap index) after (Read (Ok answer)) = Proves snap.length snap.roots index answer.block answer.trail
IsSafe m (Make request) after (Made (Ok proof)) = ProofFits proof
IsSafe m (Need index) after (Number (Ok number)) = IsFirstStored m.length (held m) index number × (number ≤ MAX_SIBLINGS)
IsSafe m (Page number) after (Bits (Ok bytes)) = bytes ≡ page_of (held m) number
IsSafe m event after (Done (Ok receipt)) = receipt ≡ receipt_of after receipt.commit
IsSafe m event after reply = ⊤

-- no fault is forgotten, the verifier stays, and a core breaks only where its store failed in a change
pub record GoesOn (old : CoreState) (event : Event) (new : CoreState) : Type 0 where
  pub accepts : new.accepts ≡ old.accepts
  pub fills : new.fills ≡ old.fills
  pub later : old.view.moment ≤ new.view.moment
  pub faults : old.view.faults ≤ new.view.faults
  pub breaks : (new.broken ≡ old.broken) ⊎ (IsTrue (is_change event) × Rose old.view.faults new.view.faults)
  pub reads : is_change event ≡ false → Keeps old.view new.view × (new.broken ≡ old.broken)

-- a broken core stays as it is, and answers so, but for its head
pub record StaysBroken (count : ℕ) (old : CoreState) (event : Event) (new : CoreState) (reply : Reply) : Type 0 where
  pub broken : new.broken ≡ Some count
  pub content : content_of new ≡ content_of old
  pub answers : event ≢ Head → event ≢ Snap → fault_in reply ≡ Some (Broken count)

-- a fault that no content tells of
abbrev pub IsOwnFault : Bool → CoreFault → Type 0
IsOwnFault fills Memory = ⊤
IsOwnFault fills StoreFault = ⊤
IsOwnFault fills (Limit Oplog max) = IsTrue fills
IsOwnFault fills fault = ⊥

-- such a fault was answered, and the content stays
pub record Fails (old : CoreState) (new : CoreState) (reply : Reply) : Type 0 where
  pub fault : CoreFault
  pub answered : fault_in reply ≡ Some fault
  pub own : IsOwnFault old.fills fault
  pub content : content_of new ≡ content_of old

-- a core that stands and isn't broken: what follows the event, or a fault of its own; and it stands after, or broke with its content as
-- it was
pub record Serves (old : CoreState) (event : Event) (new : CoreState) (reply : Reply) : Type 0 where
  pub next : Next old.accepts (content_of old) event (content_of new) reply ⊎ Fails old new reply
  pub stands : Stands new ⊎ ((count : ℕ) × (new.broken ≡ Some count) × (content_of new ≡ content_of old))

-- one call of a core
pub record Acts (takes : Bool) (old : CoreState) (event : Event) (new : CoreState) (reply : Reply) : Type 0 where
  pub kind : IsReplyTo event reply
  pub goes_on : GoesOn old event new
  pub reason : IfSome (fault_in reply) (HasReason takes old event new)
  pub refused : IfSome (fault_in reply) (λ fault. content_of new ≡ content_of old)
  pub history : KeepsHistory (content_of old) (content_of new) (commit_in reply)
  pub safe : IsSafe (content_of old) event (content_of new) reply
  pub broken : (count : ℕ) → old.broken ≡ Some count → StaysBroken count old event new reply
  pub serves : Stands old → old.broken ≡ None → Serves old event new reply

-- what an event needs, with a buffer of so many bytes: capacity for the largest block, or for a page; a request within its ranges; a
-- snapshot of a head
abbrev pub Needs : Event → ℕ → Type 0
Needs (Get index) capacity = MAX_BLOCK_BYTES ≤ capacity
Needs (ReadAt snap index) capacity = HasShape snap.roots snap.length × (snap.length ≤ MAX_BLOCKS) × (MAX_BLOCK_BYTES ≤ capacity)
Needs (Make request) capacity = RequestFits request × (MAX_BLOCK_BYTES ≤ capacity)
Needs (Page number) capacity = PAGE_BYTES ≤ capacity
Needs event capacity = ⊤

-- what a read put at the front of its buffer
abbrev pub answer_in : List ℕ → Result ReadAtInMemory CoreFault → Result Answer CoreFault
answer_in buffer (Ok read) = Ok (record { block = take read.len buffer; trail = read.trail })
answer_in buffer (Err fault) = Err fault

-- a page that was put in its buffer
abbrev pub page_in : List ℕ → Result (Unit {0}) CoreFault → Result (List ℕ) CoreFault
page_in buffer (Ok _) = Ok buffer
page_in buffer (Err fault) = Err fault
