use Rattle.log_change.proofs.History.{fetch_history, upgrade_fetch_history, reorganise_fetch_history}
use Rattle.log_change.proofs.laws.fetch_is_legal.Goals as goal

pub returns-clause-alone : goal.returns-clause-alone
returns-clause-alone c = fetch_history

pub returns-clause-upgrade : goal.returns-clause-upgrade
returns-clause-upgrade c = upgrade_fetch_history

pub returns-clause-reorganise : goal.returns-clause-reorganise
returns-clause-reorganise c = reorganise_fetch_history
