-- Why an event is refused, and what a core answers of its content.
use Rattle.std.specs.Prelude.{ℕ, ◌+◌, ◌-◌, List, [], ◌∷◌, length, Option, Some, None, Result, Ok, Err, nat_le, nat_lt, if◌then◌else◌}
use Rattle.flat_tree.specs.declared.limits.TheConstants.{MAX_BLOCKS, MAX_BLOCK_BYTES, MAX_CORE_BYTES, MAX_BATCH_BLOCKS, MAX_BATCH_BYTES}
use Rattle.merkle_nodes.specs.declared.limit.Limit.{Limit as PassedLimit}
use Rattle.merkle_nodes.specs.declared.limit.What.TheVariants.{Block, Blocks, Bytes, Batch, BatchBytes}
use Rattle.proof_form.specs.declared.request.Request.{Request}
use Rattle.proof_form.specs.Proofs.{Proof}
use Rattle.node_set.specs.declared.fault.CoreFault.{CoreFault}
use Rattle.node_set.specs.declared.fault.CoreFault.TheVariants.{OutOfRange, Limit, NoReply, NoByte}
use Rattle.node_set.specs.Contents.{Content, roots, bytes_under}
use Rattle.node_set.specs.Offsets.{need_of, seek_at, offset_of}
use Rattle.node_set.specs.Refuses.{or_else, refuse_if}
use Rattle.proof_make.specs.Answers.{made_from}
use Rattle.log_core.specs.declared.event.Spot.{Spot}

-- the limit that a block of so many bytes passes first, behind a core of so many blocks and bytes, and in an append that
-- has so many blocks and bytes before it
abbrev pub limit_at : ℕ → ℕ → ℕ → ℕ → ℕ → Option CoreFault
limit_at blocks bytes count more size =
    or_else (refuse_if (nat_lt MAX_BLOCK_BYTES size) (Limit Block MAX_BLOCK_BYTES))
    (or_else (refuse_if (nat_le MAX_BATCH_BLOCKS count) (Limit Batch MAX_BATCH_BLOCKS))
    (or_else (refuse_if (nat_lt MAX_BATCH_BYTES (more + size)) (Limit BatchBytes MAX_BATCH_BYTES))
    (or_else (refuse_if (nat_le MAX_BLOCKS (blocks + count)) (Limit Blocks MAX_BLOCKS))
    (refuse_if (nat_lt MAX_CORE_BYTES (bytes + more + size)) (Limit Bytes MAX_CORE_BYTES)))))

-- the limit that some blocks pass first, one after the other
unfoldable pub limit_in : ℕ → ℕ → ℕ → ℕ → List (List ℕ) → Option CoreFault
limit_in blocks bytes count more [] = None
limit_in blocks bytes count more (block ∷ rest) =
    or_else (limit_at blocks bytes count more (length block)) (limit_in blocks bytes (count + 1) (more + length block) rest)

-- why an append of these blocks is refused
abbrev pub append_refusal : Content → List (List ℕ) → Option CoreFault
append_refusal m more = limit_in m.length (bytes_under (roots m)) 0 0 more

-- the limit as a fault of the core
abbrev pub limit_fault : Result (Unit {0}) PassedLimit → Option CoreFault
limit_fault (Ok _) = None
limit_fault (Err limit) = Some (Limit limit.what limit.max)

-- the index isn't below the length
abbrev pub need_refusal : Content → ℕ → Option CoreFault
need_refusal m index = refuse_if (nat_le m.length index) (OutOfRange m.length)

-- the siblings that a block needs
abbrev pub need_answer : Content → ℕ → Result ℕ CoreFault
need_answer m index = if nat_le m.length index then Err (OutOfRange m.length) else Ok (need_of m index)

-- the honest proof for a request, or no reply
abbrev pub proof_answer : Content → Request → Result Proof CoreFault
proof_answer m request = OrNone (made_from m request)
  where
    OrNone : Option Proof → Result Proof CoreFault
    OrNone None = Err NoReply
    OrNone (Some proof) = Ok proof

-- the byte isn't below the core's bytes
abbrev pub seek_refusal : Content → ℕ → Option CoreFault
seek_refusal m byte = refuse_if (nat_le (bytes_under (roots m)) byte) (OutOfRange (bytes_under (roots m)))

-- the held block that has a byte, and the offset of the byte in it
abbrev pub seek_answer : Content → ℕ → Result Spot CoreFault
seek_answer m byte = if nat_le (bytes_under (roots m)) byte then Err (OutOfRange (bytes_under (roots m))) else Spotted (seek_at m byte)
  where
    Spotted : Option ℕ → Result Spot CoreFault
    Spotted None = Err (NoByte byte)
    Spotted (Some index) = Ok (record { index = index; offset = byte - offset_of m index })
