use Rattle.node_set.proofs.PathLemmas.{first_is_root}
use Rattle.node_set.proofs.path.first_stored.Goals as goal

pub returns-clause-first : goal.returns-clause-first
returns-clause-first g c = first_is_root _ _ _ _ _ c.requires.within c.requires.levels c.loop-level-test.false c.loop-level.invariant.1
