-- What is decided of a proof once all is read: the refusals by a node or the signature, and the change.
use Rattle.std.specs.Prelude.{◌≡◌, ℕ, Bool, List, Option, Some, None, Result, Ok, Err, nat_lt, ◌&&◌, is_some}
use Rattle.commit_book.specs.declared.commit.Commit.{Commit}
use Rattle.commit_book.specs.declared.commit.Commit.TheVariants.{Fetch, Upgrade, UpgradeFetch}
use Rattle.merkle_nodes.specs.declared.node.Node.{Node}
use Rattle.proof_form.specs.declared.proof.UpgradePart.{UpgradePart}
use Rattle.proof_form.specs.Proofs.{Proof, Block}
use Rattle.node_set.specs.declared.change.Change.{Change}
use Rattle.node_set.specs.declared.fault.Refusal.{Refusal}
use Rattle.node_set.specs.declared.fault.Refusal.TheVariants.{NewFork}
use Rattle.node_set.specs.Contents.{Content}
use Rattle.node_set.specs.Refuses.{or_else, refuse_if}
use Rattle.proof_check.specs.declared.path.Met.{Met}
use Rattle.proof_check.specs.Parts.{of_part}
use Rattle.proof_check.specs.Upgraded.{with_upgrade}
use Rattle.proof_check.specs.Judge.{signature_refusal}
use Rattle.proof_check.specs.Admission.{IsAdmission}
use Rattle.proof_check.specs.Meets.{block_refusal, PutsPath}

-- an upgrade under a greater fork
abbrev pub fork_upgrade_refusal : Proof → Content → Option Refusal
fork_upgrade_refusal p m = refuse_if (nat_lt m.fork p.fork && is_some p.upgrade) (NewFork m.fork)

-- what is refused by the stored node that the block meets, or else by the verifier
abbrev pub late_refusal : (List ℕ → List ℕ → Bool) → Proof → Content → Option Refusal
late_refusal accepts p m =
    or_else (of_part p.block (block_refusal (with_upgrade p m))) (signature_refusal accepts p (with_upgrade p m))

-- a decision: the refusal that holds, or the change is made
abbrev pub Settles : (List ℕ → List ℕ → Bool) → Proof → Content → Change → Result (Unit {0}) Refusal → Type 0
Settles accepts p m change (Ok _) = (late_refusal accepts p m ≡ None) × IsAdmission p m change
Settles accepts p m change (Err refusal) = late_refusal accepts p m ≡ Some refusal

-- the commit of an upgrade, if there is one, and of the block that comes in, under the head's fork
abbrev pub commit_with : Option UpgradePart → Option ℕ → Option Commit
commit_with None None = None
commit_with None (Some index) = Some (Fetch index)
commit_with (Some u) None = Some (Upgrade u.length)
commit_with (Some u) (Some index) = Some (UpgradeFetch u.length index)

-- the path of the block below where it meets a stored node was put in, if there is a block
abbrev pub PutsPart : Option Block → Option Met → List Node → List Node → Type 0
PutsPart None met old new = new ≡ old
PutsPart (Some b) None old new = ⊥
PutsPart (Some b) (Some met) old new = PutsPath b met.level old new
