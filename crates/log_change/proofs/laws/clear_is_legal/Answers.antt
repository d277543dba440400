use Rattle.log_change.proofs.History.{clear_history}
use Rattle.log_change.proofs.laws.clear_is_legal.Goals as goal

pub returns : goal.returns
returns c = clear_history
