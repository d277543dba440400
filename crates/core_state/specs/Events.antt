-- What may happen to a core, and what it replies, as values.
use Rattle.std.specs.Prelude.{ℕ, List, Result, Ok, Err}
use Rattle.merkle_nodes.specs.declared.limit.Info.{Info}
use Rattle.proof_form.specs.declared.proof.BlockPart.{BlockPart}
use Rattle.proof_form.specs.declared.proof.Proof.{Proof as ProofInMemory}
use Rattle.proof_form.specs.declared.request.Request.{Request}
use Rattle.proof_form.specs.Proofs.{Proof, view as proof_view}
use Rattle.node_set.specs.declared.fault.CoreFault.{CoreFault}
use Rattle.node_set.specs.declared.fault.Receipt.{Receipt}
use Rattle.core_snap.specs.Reads.{Answer}
use Rattle.core_state.specs.declared.event.Event.{Event as EventInMemory}
use Rattle.core_state.specs.declared.event.Event.TheVariants.{Info as InfoInMemory, Append as AppendInMemory, Truncate as TruncateInMemory, Clear as ClearInMemory, Admit as AdmitInMemory, Make as MakeInMemory, Get as GetInMemory, Need as NeedInMemory, Page as PageInMemory}
use Rattle.core_state.specs.declared.event.Reply.{Reply as ReplyInMemory}
use Rattle.core_state.specs.declared.event.Reply.TheVariants.{Told as ToldInMemory, Done as DoneInMemory, Made as MadeInMemory, Read as ReadInMemory, Number as NumberInMemory, Bits as BitsInMemory}

-- the head in short; blocks at the end; a cut to a length under a fork; blocks from..to given up; what a proof brings; a
-- proof that is asked for; a block read; how many siblings one needs; which blocks of a page are held
pub data Event : Type 0 where
  Head : Event
  Append : List (List ℕ) → Event
  Truncate Clear : ℕ → ℕ → Event
  Admit : Proof → Event
  Make : Request → Event
  Get Need Page : ℕ → Event

-- the head in short; the head after a change; a proof; a block with the siblings of its path; a number of siblings; the bytes of
-- a page
pub data Reply : Type 0 where
  Told : Info → Reply
  Done : Result Receipt CoreFault → Reply
  Made : Result Proof CoreFault → Reply
  Read : Result Answer CoreFault → Reply
  Number : Result ℕ CoreFault → Reply
  Bits : Result (List ℕ) CoreFault → Reply

-- an event in memory as a value
abbrev pub event_of : EventInMemory → Event
event_of InfoInMemory = Head
event_of (AppendInMemory blocks) = Append blocks.now
event_of (TruncateInMemory to fork) = Truncate to fork
event_of (ClearInMemory from to) = Clear from to
event_of (AdmitInMemory prepared) = Admit prepared.now
event_of (MakeInMemory request) = Make request.now
event_of (GetInMemory index) = Get index
event_of (NeedInMemory index) = Need index
event_of (PageInMemory number) = Page number

-- a block in memory as a value
abbrev pub answer_of : BlockPart → Answer
answer_of part = record { block = part.bytes.now; trail = part.trail }

-- a proof in memory as a value
abbrev pub proof_in : Result ProofInMemory CoreFault → Result Proof CoreFault
proof_in (Ok proof) = Ok (proof_view proof)
proof_in (Err fault) = Err fault

-- a reply in memory as a value
abbrev pub reply_of : ReplyInMemory → Reply
reply_of (ToldInMemory info) = Told info
reply_of (DoneInMemory answer) = Done answer
reply_of (MadeInMemory answer) = Made (proof_in answer)
reply_of (ReadInMemory (Ok part)) = Read (Ok (answer_of part))
reply_of (ReadInMemory (Err fault)) = Read (Err fault)
reply_of (NumberInMemory answer) = Number answer
reply_of (BitsInMemory (Ok bytes)) = Bits (Ok bytes.now)
reply_of (BitsInMemory (Err fault)) = Bits (Err fault)
