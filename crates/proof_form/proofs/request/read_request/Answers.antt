use Rattle.std.proofs.Common.{ap, ◌∙◌, sym}
use Rattle.proof_form.specs.Requests.{request_of}
use Rattle.proof_form.proofs.FieldLaws.{passed_read, read_again, not_again}
use Rattle.proof_form.proofs.RequestLaws.{request_passes, request_again}
use Rattle.proof_form.proofs.request.read_request.Goals as goal

pub returns-in-Ok-clause-fits : goal.returns-in-Ok-clause-fits
returns-in-Ok-clause-fits c = (passed_read _ _ _ c.in-Ok.ensures (request_passes c.copy-ahead.result c.copy-ahead.ensures.bytes)).1

pub returns-in-Ok-clause-found : goal.returns-in-Ok-clause-found
returns-in-Ok-clause-found c =
    ap (λ i. i.rest) (sym c.copy-ahead.ensures.same)
    ∙ (passed_read _ _ _ c.in-Ok.ensures (request_passes c.copy-ahead.result c.copy-ahead.ensures.bytes)).0.parts

pub returns-in-Ok-clause-only : goal.returns-in-Ok-clause-only
returns-in-Ok-clause-only c request more fits is =
    read_again request_of _ _ request more _ _ c.in-Ok.ensures (request_again request fits) (ap (λ i. i.rest) c.copy-ahead.ensures.same ∙ is)

pub returns-in-Err-clause-only : goal.returns-in-Err-clause-only
returns-in-Err-clause-only c request more fits is =
    absurd (not_again request_of _ _ request more _ c.in-Err.ensures (request_again request fits) (ap (λ i. i.rest) c.copy-ahead.ensures.same ∙ is))
