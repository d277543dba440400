use Rattle.node_set.proofs.PathLemmas.{need_is}
use Rattle.log_view.proofs.walk.need.Goals as goal

pub returns-clause-need : goal.returns-clause-need
returns-clause-need g c = λ sound. need_is _ sound _ _ c.first_stored.ensures.first
