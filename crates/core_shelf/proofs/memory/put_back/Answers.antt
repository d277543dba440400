use Rattle.core_shelf.proofs.Places.{puts_back}
use Rattle.core_shelf.proofs.memory.put_back.Goals as goal

pub returns : goal.returns
returns c = puts_back _ _ _ _ _ c.insert.ensures.updates c.insert.ensures.absent c.requires.out
