use Rattle.proof_make.proofs.Honest.{proofs_are_of}
use Rattle.proof_make.proofs.laws.proofs_are_of_the_log.Goals as goal

pub returns : goal.returns
returns c = proofs_are_of
