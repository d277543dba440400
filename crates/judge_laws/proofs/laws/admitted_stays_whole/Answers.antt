use Rattle.judge_laws.proofs.Admitted.{admitted_whole}
use Rattle.judge_laws.proofs.laws.admitted_stays_whole.Goals as goal

pub returns : goal.returns
returns c = admitted_whole
