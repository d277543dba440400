-- What may happen to a core, and what it replies, as values.
use Rattle.std.specs.Prelude.{ℕ, Bool, true, false, List, Option, Some, None, Result, Ok, Err}
use Rattle.commit_book.specs.declared.commit.Commit.{Commit}
use Rattle.merkle_nodes.specs.declared.limit.Info.{Info}
use Rattle.proof_form.specs.declared.proof.BlockPart.{BlockPart}
use Rattle.proof_form.specs.declared.proof.Proof.{Proof as ProofInMemory}
use Rattle.proof_form.specs.declared.request.Request.{Request}
use Rattle.proof_form.specs.Proofs.{Proof, view as proof_view}
use Rattle.node_set.specs.declared.fault.CoreFault.{CoreFault}
use Rattle.node_set.specs.declared.fault.Receipt.{Receipt}
use Rattle.core_snap.specs.declared.snapshot.Snapshot.{Snapshot}
use Rattle.core_snap.specs.Reads.{Answer}
use Rattle.log_core.specs.declared.event.Spot.{Spot}
use Rattle.log_core.specs.declared.event.Event.{Event as EventInMemory}
use Rattle.log_core.specs.declared.event.Event.TheVariants.{Info as InfoInMemory, Snap as SnapInMemory, Append as AppendInMemory, Truncate as TruncateInMemory, Clear as ClearInMemory, Admit as AdmitInMemory, Get as GetInMemory, Seek as SeekInMemory, ReadAt as ReadAtInMemory, Make as MakeInMemory, Need as NeedInMemory, Page as PageInMemory}
use Rattle.log_core.specs.declared.event.Reply.{Reply as ReplyInMemory}
use Rattle.log_core.specs.declared.event.Reply.TheVariants.{Info as InfoReply, Snap as SnapReply, Done as DoneReply, Read as ReadReply, Spot as SpotReply, Made as MadeReply, Number as NumberReply, Bits as BitsReply}

-- the head in short is asked for, or the head with its roots; blocks come in at the end; the log is cut to a length under a fork;
-- blocks from..to are cleared; a proof is admitted; a block is read, under the head or under a snapshot; a byte is sought; a proof is
-- asked for; how many siblings a block needs; which blocks of a page are held
pub data Event : Type 0 where
  Head Snap : Event
  Append : List (List ℕ) → Event
  Truncate Clear : ℕ → ℕ → Event
  Admit : Proof → Event
  Get Seek Need Page : ℕ → Event
  ReadAt : Snapshot → ℕ → Event
  Make : Request → Event

-- the head in short; the head with its roots; the head after a change; a block with the siblings of its path; the block and the offset
-- in it of a byte; a proof; a number of siblings; the bytes of a page
pub data Reply : Type 0 where
  Short : Info → Reply
  Taken : Snapshot → Reply
  Done : Result Receipt CoreFault → Reply
  Read : Result Answer CoreFault → Reply
  Found : Result Spot CoreFault → Reply
  Made : Result Proof CoreFault → Reply
  Number : Result ℕ CoreFault → Reply
  Bits : Result (List ℕ) CoreFault → Reply

-- the event may change the content
abbrev pub is_change : Event → Bool
is_change (Append more) = true
is_change (Truncate to fork) = true
is_change (Clear from to) = true
is_change (Admit p) = true
is_change event = false

-- the fault that a reply has
abbrev pub fault_in : Reply → Option CoreFault
fault_in (Done (Err fault)) = Some fault
fault_in (Read (Err fault)) = Some fault
fault_in (Found (Err fault)) = Some fault
fault_in (Made (Err fault)) = Some fault
fault_in (Number (Err fault)) = Some fault
fault_in (Bits (Err fault)) = Some fault
fault_in reply = None

-- the commit that a reply has
abbrev pub commit_in : Reply → Option Commit
commit_in (Done (Ok receipt)) = receipt.commit
commit_in reply = None

-- an event in memory as a value
abbrev pub event_of : EventInMemory → Event
event_of InfoInMemory = Head
event_of SnapInMemory = Snap
event_of (AppendInMemory blocks) = Append blocks.now
event_of (TruncateInMemory to fork) = Truncate to fork
event_of (ClearInMemory from to) = Clear from to
event_of (AdmitInMemory prepared) = Admit prepared.now
event_of (GetInMemory index) = Get index
event_of (SeekInMemory byte) = Seek byte
event_of (ReadAtInMemory snap index) = ReadAt snap.now index
event_of (MakeInMemory request) = Make request.now
event_of (NeedInMemory index) = Need index
event_of (PageInMemory number) = Page number

-- a proof in memory as a value
abbrev pub proof_in : Result ProofInMemory CoreFault → Result Proof CoreFault
proof_in (Ok proof) = Ok (proof_view proof)
proof_in (Err fault) = Err fault

-- a block in memory as a value
abbrev pub block_in : Result BlockPart CoreFault → Result Answer CoreFault
block_in (Ok part) = Ok (record { block = part.bytes.now; trail = part.trail })
block_in (Err fault) = Err fault

-- a reply in memory as a value
abbrev pub reply_of : ReplyInMemory → Reply
reply_of (InfoReply info) = Short info
reply_of (SnapReply snap) = Taken snap
reply_of (DoneReply answer) = Done answer
reply_of (ReadReply answer) = Read (block_in answer)
reply_of (SpotReply answer) = Found answer
reply_of (MadeReply answer) = Made (proof_in answer)
reply_of (NumberReply answer) = Number answer
reply_of (BitsReply (Ok bytes)) = Bits (Ok bytes.now)
reply_of (BitsReply (Err fault)) = Bits (Err fault)
