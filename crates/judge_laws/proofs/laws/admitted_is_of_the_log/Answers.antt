use Rattle.judge_laws.proofs.Admitted.{admitted_is_of}
use Rattle.judge_laws.proofs.laws.admitted_is_of_the_log.Goals as goal

pub returns : goal.returns
returns c = λ accepts p m log whole fits none. admitted_is_of accepts p m whole fits none log
