use Rattle.std.proofs.Common.{◌∙◌}
use Rattle.proof_form.specs.Proofs.{view}
use Rattle.proof_check.proofs.Admitting.{signature_same}
use Rattle.proof_judge.proofs.signed.refused_by_verifier.Goals as goal

pub returns : goal.returns
returns g c = λ m after fork length same.
    c.refused_head.ensures ∙ signature_same (g.A.Verifier.accepts c.args.verifier.now) (view c.args.proof.now) m after _ _ length fork same
