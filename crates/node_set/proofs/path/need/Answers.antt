use Rattle.std.proofs.lemmas.Result.{IfOk-weaker}
use Rattle.node_set.proofs.PathLemmas.{need_is}
use Rattle.node_set.proofs.path.need.Goals as goal

pub returns-clause-need : goal.returns-clause-need
returns-clause-need g c =
    λ stands. IfOk-weaker c.first_stored.result _ _ (need_is _ (c.head.ensures.sound stands).0 _) c.first_stored.ensures.first
