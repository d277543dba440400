use Rattle.log_change.proofs.History.{append_history}
use Rattle.log_change.proofs.laws.append_is_legal.Goals as goal

pub returns : goal.returns
returns c = append_history
