-- When each part of a proof is a log's, and for which contents such a proof may be.
use Rattle.std.specs.Prelude.{◌≡◌, ℕ, Bool, ◌+◌, ◌/◌, ◌^◌, ◌<◌, ◌⊎◌, List, length, IfSome, slice_index_or}
use Rattle.merkle_nodes.specs.Tree.{tree_of}
use Rattle.merkle_nodes.specs.Sound.{inputs_of, Clash}
use Rattle.proof_form.specs.declared.proof.HashPart.{HashPart}
use Rattle.proof_form.specs.Proofs.{Proof}
use Rattle.node_set.specs.Contents.{Content, no_twig}
use Rattle.node_set.specs.Evidence.{IsOf, NodesAreOf, BlocksAreOf, OffsetsAreOf, evidence}
use Rattle.node_set.specs.Paths.{sibling_of}
use Rattle.proof_check.specs.Covering.{ProofIsOf}
use Rattle.proof_check.specs.Upgraded.{with_upgrade}
use Rattle.proof_check.specs.Parts.{Part, part_of_hash}

-- a part's node is the log's, and so are the siblings of its path
pub record PartIsOf (log : List (List ℕ)) (part : Part) : Type 0 where
  pub twig : part.twig ≡ tree_of log part.depth part.offset
  pub trail : (level : ℕ) → level < length part.trail
      → slice_index_or part.trail level no_twig ≡ tree_of log (part.depth + level) (sibling_of (part.offset / 2 ^ level))

-- each part of a proof is the log's, whose head the verifier accepts under the upgrade's signature
pub record PartsAreOf (accepts : List ℕ → List ℕ → Bool) (log : List (List ℕ)) (p : Proof) : Type 0 where
  pub proof : ProofIsOf accepts log p
  pub hash : IfSome p.hash (λ (h : HashPart). PartIsOf log (part_of_hash h))

-- the content is of the log, under the proof's fork, or its fork is below it
abbrev pub AllowsFork : Proof → Content → List (List ℕ) → Type 0
AllowsFork p m log = ((p.fork ≡ m.fork) × IsOf m log) ⊎ (m.fork < p.fork)

-- the fact, or two different inputs with one hash: one of the log, and one of the content, or of the content with the proof's
-- upgrade in
abbrev pub OrClashBy : Type 0 → Proof → Content → List (List ℕ) → Type 0
OrClashBy P p m log = P ⊎ (Clash (inputs_of log) (evidence m) ⊎ Clash (inputs_of log) (evidence (with_upgrade p m)))

-- each stored node, each held block, and where it begins are the log's
pub record StoredIsOf (m : Content) (log : List (List ℕ)) : Type 0 where
  pub nodes : NodesAreOf m log
  pub blocks : BlocksAreOf m log
  pub offsets : OffsetsAreOf m log
