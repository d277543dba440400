use Rattle.log_change.proofs.History.{truncate_history}
use Rattle.log_change.proofs.laws.truncate_is_legal.Goals as goal

pub returns : goal.returns
returns c = truncate_history
