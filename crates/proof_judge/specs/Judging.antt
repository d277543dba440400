-- What judging a proof over a view comes to: a refusal, or the change of the log.
use Rattle.std.specs.Prelude.{◌≡◌, ℕ, Bool, ◌+◌, ◌⊎◌, List, [], ◌∷◌, Option, None, Some, option_map, nat_lt, ◌≤◌, length, IsTrue, IfSome, if◌then◌else◌}
use Rattle.commit_book.specs.declared.commit.Commit.{Commit}
use Rattle.commit_book.specs.declared.commit.Commit.TheVariants.{Fetch, Upgrade, UpgradeFetch, Reorg, ReorgFetch}
use Rattle.merkle_nodes.specs.declared.roots.Head.{Head}
use Rattle.node_set.specs.declared.fault.CoreFault.{CoreFault}
use Rattle.node_set.specs.declared.fault.Refusal.{Refusal}
use Rattle.node_set.specs.Contents.{Content, held}
use Rattle.node_set.specs.Refuses.{or_else}
use Rattle.log_view.specs.Views.{ViewState, Reports}
use Rattle.log_change.specs.declared.change.Indices.{Indices}
use Rattle.log_change.specs.declared.change.LogChange.{LogChange}
use Rattle.log_change.specs.LogChange.{IsChange, Ascend}
use Rattle.log_change.specs.Calls.{indices}
use Rattle.merkle_nodes.specs.declared.node.Node.{Node}
use Rattle.proof_form.specs.Proofs.{Proof, Block}
use Rattle.proof_check.specs.Admission.{refused}
use Rattle.proof_check.specs.Upgraded.{with_upgrade}
use Rattle.proof_check.specs.Judge.{signature_refusal, seek_refusal, admitted, incoming, commit_of, refusal_of}
use Rattle.proof_judge.specs.declared.upgrade.LogAfter.{LogAfter}
use Rattle.node_set.specs.Whole.{IsClosed, IsSound}
use Rattle.proof_judge.specs.declared.part.TheConstants.{MAX_WAY_NODES}
use Rattle.merkle_nodes.specs.Roots.{Accepts}
use Rattle.proof_judge.specs.Laying.{upgrade_head}
use Rattle.proof_judge.specs.Coming.{IsOver, MayCome}
use Rattle.proof_judge.specs.PartsMet.{parts_refusal}

-- the refusals over the content with the upgrade in: of the parts, of the signature, of the sought byte
abbrev pub later_refusal : (List ℕ → List ℕ → Bool) → Proof → Content → Option Refusal
later_refusal accepts p after = or_else (parts_refusal p after) (or_else (signature_refusal accepts p after) (seek_refusal p after))

-- the fault is a refusal, or one that the view reported
abbrev pub Fails : ViewState → ViewState → Option Refusal → CoreFault → Type 0
Fails old new refusal fault = (refused refusal ≡ Some fault) ⊎ Reports old new fault

-- the bytes of the block that comes in, if one does
abbrev pub coming : Proof → Content → List (List ℕ)
coming p after = ByBlock p.block
  where
    ByBlock : Option Block → List (List ℕ)
    ByBlock None = []
    ByBlock (Some b) = if held after b.index then [] else b.bytes ∷ []

-- the index of one block that comes in, as a range
abbrev pub come_at : Option ℕ → Indices
come_at None = indices 0 0
come_at (Some index) = indices index (index + 1)

-- over the content with the upgrade in nothing was refused, and one block comes in or none; of some laid nodes and the block's path those
-- that may have to be written are these
pub record IsJudged (accepts : List ℕ → List ℕ → Bool) (p : Proof) (shows : Bool) (after : Content) (laid nodes : List Node) (index : Option ℕ) : Type 0 where
  pub signed : signature_refusal accepts p after ≡ None
  pub unrefused : IsTrue shows → IsSound after → later_refusal accepts p after ≡ None
  pub index_is : index ≡ incoming p after
  pub order : Ascend nodes
  pub few : length nodes ≤ length laid + MAX_WAY_NODES
  pub comes : (m : Content) → after ≡ with_upgrade p m → IsClosed after.length after.block after.node → IsOver m after laid → MayCome m (admitted p m) nodes

-- a proof that isn't refused changes the log so, and these nodes have to be written
pub record Admits (accepts : List ℕ → List ℕ → Bool) (p : Proof) (m : Content) (fresh : List Node) (change : LogChange) : Type 0 where
  pub unrefused : refusal_of accepts p m ≡ None
  pub leads : IsChange m (admitted p m) (commit_of p m) (coming p (with_upgrade p m)) fresh change
  pub order : Ascend fresh

-- an upgrade's head is that of its proof, and the verifier accepts it
abbrev pub IsSigned : (List ℕ → List ℕ → Bool) → Proof → LogChange → Type 0
IsSigned accepts p change =
    IfSome p.upgrade (λ u. (change.head ≡ upgrade_head p.fork u) × Accepts accepts p.fork u.length change.roots u.signature)

-- ---- the change over every view

-- a proof without an upgrade changes no head
abbrev pub fetch_change : Head → List Node → Option ℕ → LogChange
fetch_change head nodes index = record { head = head; roots = nodes; gone = indices 0 0; come = come_at index; commit = option_map Fetch index }

-- the commit of an upgrade from a head's fork, with a block that comes in, if one does
abbrev pub commit_after : ℕ → LogAfter → Option ℕ → Commit
commit_after fork after None = if nat_lt fork after.head.fork then Reorg after.head.fork after.head.length after.kept else Upgrade after.head.length
commit_after fork after (Some index) =
    if nat_lt fork after.head.fork then ReorgFetch after.head.fork after.head.length after.kept index else UpgradeFetch after.head.length index

-- a proof with an upgrade leads to the log after it; under a greater fork the blocks that aren't kept go
abbrev pub upgrade_change : Head → LogAfter → Option ℕ → LogChange
upgrade_change before after index = record {
  head = after.head;
  roots = after.roots;
  gone = if nat_lt before.fork after.head.fork then indices after.kept before.length else indices 0 0;
  come = come_at index;
  commit = Some (commit_after before.fork after index);
}
