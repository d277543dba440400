-- The parts of a plan: the batch of an append, the head that is signed, the records in their order, and where a block comes in.
use Rattle.std.specs.Prelude.{◌≡◌, ℕ, Bool, ◌+◌, ◌≤◌, ◌<◌, ◌⊎◌, List, length, Option, Some, None, Result, Err, IfOk, IfErr, IsTrue, IsSome, if◌then◌else◌}
use Rattle.std.specs.List.{AllByRecursion}
use Rattle.std.specs.List.Sorted.{IsPermutation, IsNonDecreasingBy}
use Rattle.disk_trait.specs.declared.disk.Area.TheVariants.{Tree}
use Rattle.flat_tree.specs.Roots.{full_roots_of}
use Rattle.flat_tree.specs.declared.limits.TheConstants.{MAX_BLOCKS, MAX_BATCH_BLOCKS, MAX_CORE_BYTES, MAX_FRESH_NODES}
use Rattle.merkle_nodes.specs.declared.node.Node.{Node}
use Rattle.merkle_nodes.specs.declared.roots.Head.{Head}
use Rattle.merkle_nodes.specs.Joined.{Values}
use Rattle.merkle_nodes.specs.Nodes.{AreNodes}
use Rattle.merkle_nodes.specs.Roots.{root_hash_of, signed_text}
use Rattle.merkle_batch.specs.Batch.{BatchView, HasBlocks}
use Rattle.oplog_form.specs.declared.commit.TheConstants.{MAX_NUMBER}
use Rattle.oplog_form.specs.Nodes.{Rise, RecordFits}
use Rattle.proof_form.specs.Proofs.{Proof, Block, ProofFits}
use Rattle.node_set.specs.Contents.{Content, held, roots, roots_at, bytes_under}
use Rattle.node_set.specs.Nodes.{with_nodes}
use Rattle.node_set.specs.declared.change.Change.{Change}
use Rattle.node_set.specs.declared.fault.CoreFault.{CoreFault}
use Rattle.node_set.specs.declared.fault.CoreFault.TheVariants.{Refused, BadStore}
use Rattle.node_set.specs.declared.fault.Refusal.TheVariants.{NewFork}
use Rattle.node_set.specs.Views.{ViewState, AnswersBy, TellsFault}
use Rattle.node_set.specs.Walks.{KeepsView}
use Rattle.node_set.specs.Whole.{IsWhole}
use Rattle.proof_check.specs.Admission.{IsServed, IsAdmission, IsRefusal, refused}
use Rattle.proof_check.specs.Judge.{refusal_of}
use Rattle.proof_check.specs.Reaching.{IsLegalChange}
use Rattle.core_disk.specs.Plans.{Part}

-- the batch has these blocks behind the content, and keeps the limits of an append and of a log's length
pub record IsBatchOf (m : Content) (more : List (List ℕ)) (batch : BatchView) : Type 0 where
  pub base : batch.base ≡ m.length
  pub few : length more ≤ MAX_BATCH_BLOCKS
  pub within : m.length + length more ≤ MAX_BLOCKS
  pub has_blocks : (known : Values) → AreNodes known (full_roots_of m.length) (roots m) → HasBlocks known more batch

-- the head has these numbers, and its signature over these roots is accepted
pub record IsHeadOver (accepts : List ℕ → List ℕ → Bool) (nodes : List Node) (fork blocks : ℕ) (head : Head) : Type 0 where
  pub fork_is : head.fork ≡ fork
  pub length_is : head.length ≡ blocks
  pub wide : length head.signature ≡ 64
  pub accepted : IsTrue (accepts (signed_text (root_hash_of nodes) blocks fork) head.signature)

-- a hash has its bytes
abbrev pub HasHash : Node → Type 0
HasHash node = length node.hash ≡ 32

-- the same nodes in the order of their numbers
pub record AreInOrder (nodes records : List Node) : Type 0 where
  pub moved : IsPermutation nodes records
  pub sorted : IsNonDecreasingBy (λ (node : Node). node.index) records
  pub hashes : AllByRecursion HasHash records

-- a proof's block at the sum of the sizes of the roots before it, with these nodes over the content's; none where it is held
abbrev pub placed : List Node → Proof → Content → Option Part
placed fresh p m = ByBlock p.block
  where
    ByBlock : Option Block → Option Part
    ByBlock None = None
    ByBlock (Some b) = if held m b.index then None
        else Some (record { at = bytes_under (roots_at (with_nodes m.node fresh) b.index); bytes = b.bytes })

-- a number and a size are in their ranges
pub record IsInRange (node : Node) : Type 0 where
  pub index : node.index ≤ MAX_NUMBER
  pub size : node.size ≤ MAX_CORE_BYTES

-- the nodes may be the records of an entry: their numbers rise, and each is in its ranges
abbrev pub MayBeRecords : List Node → Type 0
MayBeRecords nodes = Rise 0 nodes × AllByRecursion IsInRange nodes

-- the nodes that come in are records, and its head is one that is written
pub record AreRecords (change : Change) : Type 0 where
  pub order : Rise 0 change.fresh
  pub fit : AllByRecursion RecordFits change.fresh
  pub few : length change.fresh ≤ MAX_FRESH_NODES
  pub wide : length change.head.signature ≡ 64

-- what is told of a proof that was judged over a view
pub record IsJudged (accepts : List ℕ → List ℕ → Bool) (p : Proof) (old new : ViewState) (answer : Result Change CoreFault) : Type 0 where
  pub answers : IsTrue old.stands → IsServed p old.content
      → AnswersBy old new (refused (refusal_of accepts p old.content)) (IsAdmission p old.content) answer
  pub new_fork : old.content.fork < p.fork → IsSome p.upgrade → answer ≡ Err (Refused (NewFork old.content.fork))
  pub fits : ProofFits p
  pub legal : IfOk answer (IsLegalChange p old.content)
  pub told : IfErr answer (λ (fault : CoreFault). IsRefusal fault ⊎ TellsFault old new fault)
  pub keeps : KeepsView old new

-- the nodes can't be records: the tree area gave others
abbrev pub CantBeRecords : List Node → CoreFault → Type 0
CantBeRecords nodes fault = (MayBeRecords nodes → ⊥) × (fault ≡ BadStore Tree 0)

-- so the view doesn't stand for a whole content
abbrev pub GivesOthers : (List ℕ → List ℕ → Bool) → ViewState → CoreFault → Type 0
GivesOthers accepts v fault = (IsTrue v.stands → IsWhole accepts v.content → ⊥) × (fault ≡ BadStore Tree 0)
