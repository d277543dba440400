use Rattle.proof_form.specs.Requests.{request_spelling, request_of}
use Rattle.proof_form.proofs.FieldLaws.{alone}
use Rattle.proof_form.proofs.RequestLaws.{request_again}
use Rattle.proof_form.proofs.laws.one_spelling_of_a_request.Goals as goal

pub returns : goal.returns
returns c a b x y p q = alone request_of a b (request_spelling a) (request_spelling b) x y (request_again a p) (request_again b q)
