use Rattle.std.proofs.Common.{subst}
use Rattle.proof_form.specs.Proofs.{Proof, ProofFits}
use Rattle.core_state.proofs.AdmitTurns.{judged}
use Rattle.core_state.proofs.stored.MemState.judged.Goals as goal

pub returns : goal.returns
returns g c =
    judged (g.A.Verifier.accepts c.args.verifier.now) c.args.prepared.now c.view.result.state.now c.judge_into.new.view.state.now c.args.self.now c.view.ensures c.judge_into.new.change c.judge_into.result
    c.judge_into.ensures.answers c.judge_into.ensures.new_fork c.judge_into.ensures.legal c.judge_into.ensures.told
    (subst (λ (p : Proof). ProofFits p) c.proof-proof.ensures.proof c.proof-proof.ensures.fits)
