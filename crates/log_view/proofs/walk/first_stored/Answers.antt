use Rattle.node_set.proofs.PathLemmas.{first_is_root}
use Rattle.log_view.proofs.walk.first_stored.Goals as goal

pub returns : goal.returns
returns g c =
    record { first = first_is_root _ _ _ _ _ c.requires.within c.requires.levels c.loop-level-test.false c.loop-level.invariant }
