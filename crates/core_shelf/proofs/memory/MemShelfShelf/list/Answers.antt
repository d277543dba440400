use Rattle.core_shelf.proofs.Places.{lists}
use Rattle.core_shelf.proofs.memory.MemShelfShelf.list.Goals as goal

pub returns-in-Ok-clause-lists : goal.returns-in-Ok-clause-lists
returns-in-Ok-clause-lists c = λ honest. lists c.args.self.now.places c.args.self.now.room _ _ _ _ c.in-Ok.ensures.ids c.ids_of.ensures.ordered
