use Rattle.std.proofs.Common.{ap, ◌∙◌, sym}
use Rattle.proof_form.specs.Proofs.{proof_of}
use Rattle.proof_form.proofs.FieldLaws.{passed_read, read_again, not_again}
use Rattle.proof_form.proofs.ProofLaws.{proof_passes, proof_again}
use Rattle.proof_form.proofs.proof.read_proof.Goals as goal

pub returns-in-Ok-clause-fits : goal.returns-in-Ok-clause-fits
returns-in-Ok-clause-fits c = (passed_read _ _ _ c.in-Ok.ensures (proof_passes c.copy-ahead.result c.copy-ahead.ensures.bytes)).1

pub returns-in-Ok-clause-found : goal.returns-in-Ok-clause-found
returns-in-Ok-clause-found c =
    ap (λ i. i.rest) (sym c.copy-ahead.ensures.same)
    ∙ (passed_read _ _ _ c.in-Ok.ensures (proof_passes c.copy-ahead.result c.copy-ahead.ensures.bytes)).0.parts

pub returns-in-Ok-clause-only : goal.returns-in-Ok-clause-only
returns-in-Ok-clause-only c proof more fits is =
    read_again proof_of _ _ proof more _ _ c.in-Ok.ensures (proof_again proof fits) (ap (λ i. i.rest) c.copy-ahead.ensures.same ∙ is)

pub returns-in-Err-clause-only : goal.returns-in-Err-clause-only
returns-in-Err-clause-only c proof more fits is =
    absurd (not_again proof_of _ _ proof more _ c.in-Err.ensures (proof_again proof fits) (ap (λ i. i.rest) c.copy-ahead.ensures.same ∙ is))
