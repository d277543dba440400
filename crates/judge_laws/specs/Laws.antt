-- The laws of admission: what an admission leaves whole, legal and of the log, and which proofs are admitted.
use Rattle.std.specs.Prelude.{◌≡◌, ℕ, Bool, List, length, Some, None}
use Rattle.merkle_nodes.specs.Roots.{roots_of, Accepts}
use Rattle.proof_form.specs.declared.request.Request.{Request}
use Rattle.proof_form.specs.Proofs.{Proof, ProofFits}
use Rattle.node_set.specs.Contents.{Content}
use Rattle.node_set.specs.Evidence.{IsOf, OrClash}
use Rattle.node_set.specs.Legal.{KeepsHistory}
use Rattle.node_set.specs.Whole.{IsWhole}
use Rattle.proof_make.specs.Answers.{made}
use Rattle.proof_check.specs.Covering.{Covers}
use Rattle.proof_check.specs.Judge.{refusal_of, admitted, commit_of}
use Rattle.judge_laws.specs.Honest.{PartsAreOf, AllowsFork, OrClashBy, StoredIsOf}

-- a whole content stays whole under each proof that isn't refused
abbrev pub StaysWhole : Type 0
StaysWhole = (accepts : List ℕ → List ℕ → Bool) (p : Proof) (m : Content) → IsWhole accepts m → ProofFits p → refusal_of accepts p m ≡ None
    → IsWhole accepts (admitted p m)

-- the commit may follow the summary before, and gives the summary after
abbrev pub StaysLegal : Type 0
StaysLegal = (accepts : List ℕ → List ℕ → Bool) (p : Proof) (m : Content) → IsWhole accepts m → ProofFits p → refusal_of accepts p m ≡ None
    → KeepsHistory m (admitted p m) (commit_of p m)

-- a proof whose parts are a log's isn't refused where it covers what the content lacks, or inputs clash
abbrev pub CoveringIsAdmitted : Type 0
CoveringIsAdmitted = (accepts : List ℕ → List ℕ → Bool) (p : Proof) (m : Content) (log : List (List ℕ)) → IsWhole accepts m → ProofFits p
    → PartsAreOf accepts log p → Covers p m → AllowsFork p m log → OrClashBy (refusal_of accepts p m ≡ None) p m log

-- what the holder of the whole log makes isn't refused where it covers what the content lacks, or inputs clash
abbrev pub MadeIsAdmitted : Type 0
MadeIsAdmitted = (accepts : List ℕ → List ℕ → Bool) (p : Proof) (m : Content) (log : List (List ℕ)) (fork : ℕ) (signature : List ℕ) (request : Request)
    → IsWhole accepts m → ProofFits p → made log fork signature request ≡ Some p → Accepts accepts fork (length log) (roots_of log) signature
    → Covers p m → AllowsFork p m log → OrClashBy (refusal_of accepts p m ≡ None) p m log

-- what is stored after an admission is that of each log that the content is then of, or inputs clash
abbrev pub StoresTheLog : Type 0
StoresTheLog = (accepts : List ℕ → List ℕ → Bool) (p : Proof) (m : Content) (log : List (List ℕ)) → IsWhole accepts m → ProofFits p
    → refusal_of accepts p m ≡ None → IsOf (admitted p m) log → OrClash (StoredIsOf (admitted p m) log) (admitted p m) log
