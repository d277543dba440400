use Rattle.proof_check.proofs.Acceptance.{covering_admitted}
use Rattle.proof_check.proofs.laws.covering_proofs_are_admitted.Goals as goal

pub returns : goal.returns
returns c = covering_admitted
