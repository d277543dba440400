-- What a list of steps does to a core, and the replies that are kept of it.
use Rattle.std.specs.Prelude.{◌≡◌, ◌≢◌, ℕ, Bool, List, [], ◌∷◌, ◌++◌, length, take, Option, Some, None, option_map, is_none, ◌&&◌, if◌then◌else◌, Result, Ok, Err, IsOk, IsErr, IsTrue}
use Rattle.proof_form.specs.Proofs.{Proof}
use Rattle.wire_messages.specs.Messages.{Message}
use Rattle.wire_messages.specs.Messages.Message.{answer as answer_message}
use Rattle.wire_messages.specs.Reading.{message_of}
use Rattle.node_set.specs.declared.fault.CoreFault.{CoreFault}
use Rattle.node_set.specs.declared.fault.CoreFault.TheVariants.{Memory, Broken, BookFull, StoreFault, BadStore, Damaged, BadSignature, OutOfRange, Unavailable, NoNode, NoByte, NoReply, OldFork, Limit, Refused}
use Rattle.node_set.specs.Contents.{summary_of}
use Rattle.core_state.specs.declared.playing.Kept.{Kept}
use Rattle.core_state.specs.declared.playing.Step.{Step}
use Rattle.core_state.specs.declared.playing.Step.TheVariants.{Append as AppendStep, Truncate as TruncateStep, Clear as ClearStep, Peer as PeerStep, Get as GetStep}
use Rattle.core_state.specs.Events.{Event, Reply}
use Rattle.core_state.specs.Events.Reply.{Told, Done, Made, Read, Number, Bits}
use Rattle.core_state.specs.Events.Event.{Append, Truncate, Clear, Admit, Get}
use Rattle.core_state.specs.States.{CoreState}
use Rattle.core_state.specs.Calls.{Acts, fault_in}

-- the proof has no part but a block and an upgrade
abbrev pub is_plain : Proof → Bool
is_plain p = is_none p.hash && is_none p.seek

-- the proof, if it is plain
abbrev pub plain_of : Proof → Option Proof
plain_of p = if is_plain p then Some p else None

-- the proof of an answer, if it is plain
abbrev pub offer_of : {E : Type 0} → Result Message E → Option Proof
offer_of (Ok (answer_message id proof)) = plain_of proof
offer_of message = None

-- the event of a step; none of bytes that are no answer with such a proof
abbrev pub event_of_step : Step → Option Event
event_of_step (AppendStep blocks) = Some (Append blocks)
event_of_step (TruncateStep to fork) = Some (Truncate to fork)
event_of_step (ClearStep from to) = Some (Clear from to)
event_of_step (PeerStep body) = option_map Admit (offer_of (message_of body))
event_of_step (GetStep index) = Some (Get index)

-- the program's status of a fault
abbrev pub status_of : CoreFault → ℕ
status_of Memory = 70
status_of (Broken count) = 5
status_of BookFull = 14
status_of StoreFault = 5
status_of (BadStore area at) = 15
status_of (Damaged place want have) = 16
status_of BadSignature = 9
status_of (OutOfRange end) = 12
status_of (Unavailable index) = 13
status_of (NoNode index) = 13
status_of (NoByte byte) = 13
status_of NoReply = 17
status_of (OldFork have) = 12
status_of (Limit what max) = 14
status_of (Refused refusal) = 17

-- what is kept of a reply with these numbers and bytes
abbrev pub kept_with : ℕ → ℕ → List ℕ → Kept
kept_with status number bytes = record { status = status; number = number; bytes = bytes }

-- what is kept of a reply: the length after a change, a block with its length, or a status
abbrev pub kept_of : Reply → Kept
kept_of (Told info) = kept_with 0 info.length []
kept_of (Done (Ok receipt)) = kept_with 0 receipt.length []
kept_of (Made (Ok proof)) = kept_with 0 0 []
kept_of (Read (Ok answer)) = kept_with 0 (length answer.block) answer.block
kept_of (Number (Ok number)) = kept_with 0 number []
kept_of (Bits (Ok bytes)) = kept_with 0 (length bytes) bytes
kept_of (Done (Err fault)) = kept_with (status_of fault) 0 []
kept_of (Made (Err fault)) = kept_with (status_of fault) 0 []
kept_of (Read (Err fault)) = kept_with (status_of fault) 0 []
kept_of (Number (Err fault)) = kept_with (status_of fault) 0 []
kept_of (Bits (Err fault)) = kept_with (status_of fault) 0 []

-- the call lacked memory, or read a block, of which no copy may be made
abbrev pub LacksMemory : Reply → Type 0
LacksMemory (Read (Ok read)) = Unit {0}
LacksMemory reply = fault_in reply ≡ Some Memory

-- what is kept of a reply, or want of memory
abbrev pub KeepsReply : {E : Type 0} → Reply → Result Kept E → Type 0
KeepsReply reply (Ok kept) = (kept ≡ kept_of reply) × (kept.status ≢ 70)
KeepsReply reply (Err _) = LacksMemory reply

-- a call of the core, and what is kept of its reply
pub record PlaysCall (takes : Bool) (old : CoreState) (event : Event) (new : CoreState) (kept : Kept) : Type 0 where
  pub reply : Reply
  pub acts : Acts takes old event new reply
  pub is_kept : kept ≡ kept_of reply
  pub answered : kept.status ≢ 70

-- one step: a call of the core; or none, and a peer is at fault
abbrev pub PlaysOne : Bool → CoreState → Option Event → CoreState → Kept → Type 0
PlaysOne takes old (Some event) new kept = PlaysCall takes old event new kept
PlaysOne takes old None new kept = (new ≡ old) × (kept ≡ kept_with (status_of NoReply) 0 [])

-- nothing was committed, and the content of a core that stands stays
pub record Stays (old new : CoreState) : Type 0 where
  pub summary : summary_of new.content ≡ summary_of old.content
  pub content : IsTrue old.stands → new.content ≡ old.content

-- one step was played, or for want of memory it left the content
abbrev pub PlaysStep : {E : Type 0} → Bool → CoreState → Option Event → CoreState → Result Kept E → Type 0
PlaysStep takes old event new (Ok kept) = PlaysOne takes old event new kept
PlaysStep takes old event new (Err _) = Stays old new

-- the same, and what is kept was added, or nothing
abbrev pub AddsKept : {E : Type 0} → Bool → CoreState → Option Event → CoreState → List Kept → List Kept → Result (Unit {0}) E → Type 0
AddsKept takes old event new before after (Ok _) = (kept : Kept) × (after ≡ before ++ kept ∷ []) × PlaysOne takes old event new kept
AddsKept takes old event new before after (Err _) = (after ≡ before) × Stays old new

-- steps one after the other, and what is kept of each
abbrev pub Plays : Bool → CoreState → List (Option Event) → CoreState → List Kept → Type 0
Plays takes old [] new [] = new ≡ old
Plays takes old (event ∷ events) new (kept ∷ others) =
    (middle : CoreState) × PlaysOne takes old event middle kept × Plays takes middle events new others
Plays takes old events new kept = ⊥

-- a list was played up to its end, or for want of memory up to a step that left the content
pub record Played {E : Type 0} (takes : Bool) (old : CoreState) (events : List (Option Event)) (new : CoreState) (kept : List Kept) (answer : Result (Unit {0}) E) : Type 0 where
  pub count : ℕ
  pub middle : CoreState
  pub plays : Plays takes old (take count events) middle kept
  pub all : IsOk answer → (count ≡ length events) × (new ≡ middle)
  pub stopped : IsErr answer → Stays middle new

-- the same, and what is kept was added
pub record AddsReplies {E : Type 0} (takes : Bool) (old : CoreState) (events : List (Option Event)) (new : CoreState) (before after : List Kept) (answer : Result (Unit {0}) E) : Type 0 where
  pub kept : List Kept
  pub added : after ≡ before ++ kept
  pub played : Played takes old events new kept answer
