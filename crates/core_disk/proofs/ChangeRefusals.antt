-- No refusal of a change is one at the limit of the change file: the core alone answers that.
use Rattle.std.proofs.Common.{◌≡◌, ℕ, ◌+◌, Bool, true, false, List, [], ◌∷◌, length, Option, Some, None, Err, subst}
use Rattle.std.specs.Prelude.{⊤, ◌&&◌, not, nat_le, nat_lt, if◌then◌else◌}
use Rattle.flat_tree.specs.Subtrees.{Subtree, number}
use Rattle.flat_tree.specs.Roots.{full_roots_of}
use Rattle.flat_tree.specs.declared.limits.TheConstants.{MAX_BLOCKS, MAX_BLOCK_BYTES, MAX_CORE_BYTES, MAX_BATCH_BLOCKS, MAX_BATCH_BYTES, MAX_FORK}
use Rattle.merkle_nodes.specs.declared.limit.What.TheVariants.{Block, Blocks, Bytes, Batch, BatchBytes, Fork, Oplog}
use Rattle.node_set.specs.declared.fault.CoreFault.{CoreFault}
use Rattle.node_set.specs.declared.fault.CoreFault.TheVariants.{OutOfRange, Limit, OldFork, NoNode}
use Rattle.node_set.specs.declared.fault.Refusal.{Refusal}
use Rattle.node_set.specs.Contents.{Content, held, roots, bytes_under}
use Rattle.node_set.specs.Closure.{in_closure}
use Rattle.node_set.specs.Refuses.{or_else, refuse_if}
use Rattle.core_forks.specs.Refusals.{first_missing, truncate_refusal}
use Rattle.proof_check.specs.Judge.{refusal_of}
use Rattle.proof_check.specs.Admission.{refused}
use Rattle.core_state.specs.Events.{Event}
use Rattle.core_state.specs.Events.Event.{Append, Truncate, Clear, Admit}
use Rattle.core_state.specs.Events.Reply.{Done}
use Rattle.core_state.specs.Refusals.{limit_at, limit_in, append_refusal}
use Rattle.core_state.specs.Next.{Next}
use Rattle.core_disk.proofs.AdmitPlan.{served_unless}

-- this holds of the refusal, if there is one
abbrev All : (CoreFault → Type 0) → Option CoreFault → Type 0
All Holds None = ⊤
All Holds (Some fault) = Holds fault

or_all : (Holds : CoreFault → Type 0) (first second : Option CoreFault) → All Holds first → All Holds second → All Holds (or_else first second)
or_all Holds None second one other = other
or_all Holds (Some fault) second one other = one

if_all : (Holds : CoreFault → Type 0) (test : Bool) (fault : CoreFault) → Holds fault → All Holds (refuse_if test fault)
if_all Holds true fault holds = holds
if_all Holds false fault holds = tt

-- ---- an append is refused at a limit of its blocks, its bytes or the log's

-- a limit, and not that of the change file
abbrev pub IsLimit : CoreFault → Type 0
IsLimit (Limit Oplog max) = ⊥
IsLimit (Limit what max) = ⊤
IsLimit fault = ⊥

limit_at_is : (blocks bytes count more size : ℕ) → All IsLimit (limit_at blocks bytes count more size)
limit_at_is blocks bytes count more size =
    or_all IsLimit (refuse_if (nat_lt MAX_BLOCK_BYTES size) (Limit Block MAX_BLOCK_BYTES)) _ (if_all IsLimit (nat_lt MAX_BLOCK_BYTES size) (Limit Block MAX_BLOCK_BYTES) tt)
    (or_all IsLimit (refuse_if (nat_le MAX_BATCH_BLOCKS count) (Limit Batch MAX_BATCH_BLOCKS)) _
    (if_all IsLimit (nat_le MAX_BATCH_BLOCKS count) (Limit Batch MAX_BATCH_BLOCKS) tt)
    (or_all IsLimit (refuse_if (nat_lt MAX_BATCH_BYTES (more + size)) (Limit BatchBytes MAX_BATCH_BYTES)) _
    (if_all IsLimit (nat_lt MAX_BATCH_BYTES (more + size)) (Limit BatchBytes MAX_BATCH_BYTES) tt)
    (or_all IsLimit (refuse_if (nat_le MAX_BLOCKS (blocks + count)) (Limit Blocks MAX_BLOCKS)) _
    (if_all IsLimit (nat_le MAX_BLOCKS (blocks + count)) (Limit Blocks MAX_BLOCKS) tt)
    (if_all IsLimit (nat_lt MAX_CORE_BYTES (bytes + more + size)) (Limit Bytes MAX_CORE_BYTES) tt))))

limit_in_is : (blocks bytes count more : ℕ) (batch : List (List ℕ)) → All IsLimit (limit_in blocks bytes count more batch)
unfolding limit_in
limit_in_is blocks bytes count more [] = tt
limit_in_is blocks bytes count more (block ∷ batch) =
    or_all IsLimit (limit_at blocks bytes count more (length block)) _ (limit_at_is blocks bytes count more (length block))
    (limit_in_is blocks bytes (count + 1) (more + length block) batch)

pub refusal_is : (m : Content) (batch : List (List ℕ)) (fault : CoreFault) → append_refusal m batch ≡ Some fault → IsLimit fault
refusal_is m batch fault refused = subst (All IsLimit) refused (limit_in_is m.length (bytes_under (roots m)) 0 0 batch)

-- ---- no change is refused at the limit of the change file

abbrev IsOther : CoreFault → Type 0
IsOther (Limit Oplog max) = ⊥
IsOther fault = ⊤

missing_is : (is_stored : ℕ → ℕ → Bool) (trees : List Subtree) → All IsOther (first_missing is_stored trees)
unfolding first_missing
missing_is is_stored [] = tt
missing_is is_stored (tree ∷ trees) = ByStored (is_stored tree.depth tree.offset) (first_missing is_stored trees) (missing_is is_stored trees)
  where
    ByStored : (stored : Bool) (later : Option CoreFault) → All IsOther later → All IsOther (if stored then later else Some (NoNode (number tree.depth tree.offset)))
    ByStored true later is = is
    ByStored false later is = tt

truncate_is : (m : Content) (to fork : ℕ) → All IsOther (truncate_refusal m to fork)
truncate_is m to fork =
    or_all IsOther (refuse_if (nat_lt m.length to) (OutOfRange m.length)) _ (if_all IsOther (nat_lt m.length to) (OutOfRange m.length) tt)
    (or_all IsOther (refuse_if (nat_lt MAX_FORK fork) (Limit Fork MAX_FORK)) _ (if_all IsOther (nat_lt MAX_FORK fork) (Limit Fork MAX_FORK) tt)
    (or_all IsOther (refuse_if (nat_le fork m.fork) (OldFork m.fork)) _ (if_all IsOther (nat_le fork m.fork) (OldFork m.fork) tt)
    (missing_is (in_closure m.length (held m)) (full_roots_of to))))

refused_is : (refusal : Option Refusal) → All IsOther (refused refusal)
refused_is None = tt
refused_is (Some refusal) = tt

pub next_other : (accepts : List ℕ → List ℕ → Bool) (m : Content) (event : Event) (after : Content) (max : ℕ)
    → Next accepts m event after (Done (Err (Limit Oplog max))) → ⊥
next_other accepts m (Append more) after max next = refusal_is m more (Limit Oplog max) next.0
next_other accepts m (Truncate to fork) after max next = subst (All IsOther) next.0 (truncate_is m to fork)
next_other accepts m (Clear from to) after max next =
    subst (All IsOther) next.0 (if_all IsOther (not (nat_le from to && nat_le to m.length)) (OutOfRange m.length) tt)
next_other accepts m (Admit p) after max next =
    let served = served_unless m p (λ greater some. let clash = (next.new_fork greater some).0 in cc) in
    subst (All IsOther) (next.served served).0 (refused_is (refusal_of accepts p m))
next_other accepts m event after max next = absurd next
