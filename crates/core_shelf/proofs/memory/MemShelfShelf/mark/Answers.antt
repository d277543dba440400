use Rattle.core_shelf.proofs.Places.{marks}
use Rattle.core_shelf.proofs.memory.MemShelfShelf.mark.Goals as goal

pub returns-in-Ok-clause-marks : goal.returns-in-Ok-clause-marks
returns-in-Ok-clause-marks c = λ honest. marks _ c.args.self.now.places c.args.self.now.room _ _ _ _ _ c.in-Ok.ensures.updates
