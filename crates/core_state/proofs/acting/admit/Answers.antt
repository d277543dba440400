use Rattle.std.proofs.Common.{subst}
use Rattle.proof_form.specs.Proofs.{Proof, ProofFits}
use Rattle.core_state.proofs.HonestTaken.{honest_taken}
use Rattle.core_state.proofs.acting.admit.Goals as goal

pub returns-clause-honest : goal.returns-clause-honest
returns-clause-honest g c =
    honest_taken g.C.Core.TAKES_MEMORY _ _ c.args.prepared.now c.admit.result c.requires.plain
    (subst (λ (p : Proof). ProofFits p) c.proof-proof.ensures.proof c.proof-proof.ensures.fits) c.admit.ensures.acts
