use Rattle.judge_laws.proofs.Covering.{covering_admitted}
use Rattle.judge_laws.proofs.Made.{made_parts}
use Rattle.judge_laws.proofs.laws.covering_proofs_are_admitted.Goals as goal

pub returns-clause-parts : goal.returns-clause-parts
returns-clause-parts c = covering_admitted

pub returns-clause-made : goal.returns-clause-made
returns-clause-made c = λ accepts p m log fork signature request whole fits made accepted covers.
    covering_admitted accepts p m log whole fits (made_parts log fork signature accepts request p fits made accepted) covers
