use Rattle.log_view.proofs.Laying.{value_laid, value_below}
use Rattle.log_view.proofs.laws.what_is_laid.Goals as goal

pub returns-clause-laid : goal.returns-clause-laid
returns-clause-laid c m head roots laid kept is depth offset node stored there numbered = value_laid m head roots kept laid is depth offset node stored there numbered

pub returns-clause-below : goal.returns-clause-below
returns-clause-below c m head roots laid kept is depth offset stored none = value_below m head roots kept laid is depth offset stored none
