use Rattle.log_change.proofs.History.{upgrade_history}
use Rattle.log_change.proofs.laws.upgrade_is_legal.Goals as goal

pub returns : goal.returns
returns c = upgrade_history
