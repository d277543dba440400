use Rattle.log_change.proofs.History.{reorganise_history}
use Rattle.log_change.proofs.laws.reorganise_is_legal.Goals as goal

pub returns : goal.returns
returns c = reorganise_history
