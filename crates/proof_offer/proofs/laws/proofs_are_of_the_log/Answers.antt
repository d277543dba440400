use Rattle.proof_offer.proofs.Honest.{proofs_are_of}
use Rattle.proof_offer.proofs.laws.proofs_are_of_the_log.Goals as goal

pub returns : goal.returns
returns c = proofs_are_of
