-- What a content tells of a log that it is of, and which proofs of the log it takes.
use Rattle.std.specs.Prelude.{◌≡◌, ◌⊎◌, ℕ, Bool, List, length, Some, Result, Ok}
use Rattle.merkle_nodes.specs.Roots.{roots_of, Accepts}
use Rattle.proof_form.specs.declared.request.Request.{Request}
use Rattle.proof_form.specs.Proofs.{Proof}
use Rattle.proof_make.specs.Answers.{made}
use Rattle.proof_check.specs.Covering.{Covers}
use Rattle.node_set.specs.declared.fault.CoreFault.{CoreFault}
use Rattle.node_set.specs.declared.fault.Receipt.{Receipt}
use Rattle.node_set.specs.Contents.{Content}
use Rattle.node_set.specs.Evidence.{IsOf, OrClash, NodesAreOf, BlocksAreOf, OffsetsAreOf}
use Rattle.core_state.specs.Events.{Event, Reply}
use Rattle.core_state.specs.Events.Event.{Admit}
use Rattle.core_state.specs.Events.Reply.{Done}
use Rattle.core_state.specs.States.{CoreState}
use Rattle.core_state.specs.Next.{Admits}
use Rattle.core_state.specs.Calls.{Fails}

-- the nodes stored, the blocks held and their offsets are the log's
pub record IsTrueOf (m : Content) (log : List (List ℕ)) : Type 0 where
  pub nodes : NodesAreOf m log
  pub blocks : BlocksAreOf m log
  pub offsets : OffsetsAreOf m log

-- they are those of each log that the content is of, or two different inputs of equal hash are in hand
abbrev pub TellsTruth : Content → Type 0
TellsTruth m = (log : List (List ℕ)) → IsOf m log → OrClash (IsTrueOf m log) m log

-- the proof is what the holder of the whole log makes for a request, under a head that the verifier accepts
pub record IsHonest (accepts : List ℕ → List ℕ → Bool) (log : List (List ℕ)) (fork : ℕ) (p : Proof) : Type 0 where
  pub request : Request
  pub signature : List ℕ
  pub is_made : made log fork signature request ≡ Some p
  pub signed : Accepts accepts fork (length log) (roots_of log) signature

-- what the proof brings came in
pub record IsAdmitted (m : Content) (p : Proof) (after : Content) (answer : Result Receipt CoreFault) : Type 0 where
  pub receipt : Receipt
  pub answered : answer ≡ Ok receipt
  pub admits : Admits m p after receipt

-- an honest proof of each log that the content is of is admitted, if it covers what the content lacks, or the core fails in it; or
-- two different inputs of equal hash are in hand
abbrev pub TakesHonest : Bool → CoreState → Event → CoreState → Reply → Type 0
TakesHonest takes old (Admit p) new (Done answer) = (log : List (List ℕ)) → IsOf old.content log → IsHonest old.accepts log old.content.fork p
    → Covers p old.content → OrClash (IsAdmitted old.content p new.content answer ⊎ Fails takes old (Admit p) new (Done answer)) old.content log
TakesHonest takes old event new reply = Unit {0}
