-- Two verifiers that accept the same answer checks alike, and accept the same proofs.
use Rattle.std.proofs.Common.{◌≡◌, ℕ, ◌≤◌, Bool, List, [], length, Ok, inl, inr, subst}
use Rattle.std.specs.Prelude.{IsTrue}
use Rattle.std.specs.Result.{IsErrOf}
use Rattle.std.proofs.lemmas.Bool.{cases_lt}
use Rattle.merkle_nodes.specs.declared.node.Node.{Node}
use Rattle.merkle_nodes.specs.declared.check.Opened.{Opened}
use Rattle.merkle_nodes.specs.Roots.{Accepts}
use Rattle.merkle_nodes.specs.Check.{Checks, OpensSigned}
use Rattle.merkle_batch.specs.Honest.{AppendsProof}
use Rattle.hypercore_cli.specs.Checks.{IsProved}
use Rattle.hypercore_cli.specs.Proves.{IsBundleOf}

Accepts-same : (f g : List ℕ → List ℕ → Bool) (fork blocks : ℕ) (roots : List Node) (signature : List ℕ)
    → ((text sig : List ℕ) → f text sig ≡ g text sig) → Accepts f fork blocks roots signature → Accepts g fork blocks roots signature
Accepts-same f g fork blocks roots signature same was = record { shape = was.shape; accepted = subst IsTrue (same _ _) was.accepted }

pub IsProved-same : (f g : List ℕ → List ℕ → Bool) (bytes : List ℕ) (opened : Opened)
    → ((text sig : List ℕ) → f text sig ≡ g text sig) → Checks f bytes (Ok opened) → OpensSigned f bytes opened → IsProved g bytes opened
IsProved-same f g bytes opened same checks signed = (
  (checks.0, checks.1, checks.2, Accepts-same f g _ _ _ _ same checks.3, checks.4),
  record { bundle = signed.bundle; spells = signed.spells; accepted = Accepts-same f g _ _ _ _ same signed.accepted; sound = signed.sound },
)

AppendsProof-same : (f g : List ℕ → List ℕ → Bool) (log : List (List ℕ)) (index : ℕ) (old new : List ℕ)
    → ((text sig : List ℕ) → f text sig ≡ g text sig) → AppendsProof f log index old new → AppendsProof g log index old new
AppendsProof-same f g log index old new same made = record {
  signature = made.signature;
  signed = record { wide = made.signed.wide; accepted = subst IsTrue (same _ _) made.signed.accepted };
  bytes = made.bytes;
}

-- a proof that was made is that of a block which is there
pub IsBundleOf-made : {E : Type 0} (f g : List ℕ → List ℕ → Bool) (log : List (List ℕ)) (index : ℕ) (empty bundle : List ℕ) (fault : E)
    → ((text sig : List ℕ) → f text sig ≡ g text sig) → empty ≡ [] → AppendsProof f log index empty bundle → (length log ≤ index → IsErrOf {T = Unit {0}} (Ok tt) fault)
    → IsBundleOf g log index bundle
IsBundleOf-made f g log index empty bundle fault same none made out_of_range = (
  elim (cases_lt index (length log)) [ inl below ↦ below | inr end ↦ (let never = out_of_range end in absurd cc) ],
  AppendsProof-same f g log index [] bundle same (subst (λ old. AppendsProof f log index old bundle) none made),
)
