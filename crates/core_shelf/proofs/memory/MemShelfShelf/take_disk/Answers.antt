use Rattle.std.proofs.Common.{sym, ◌∙◌}
use Rattle.core_shelf.proofs.Places.{takes, told_made, others_twice}
use Rattle.core_shelf.proofs.memory.MemShelfShelf.take_disk.Goals as goal

pub returns-in-Ok-clause-takes : goal.returns-in-Ok-clause-takes
returns-in-Ok-clause-takes c = λ honest. takes _ _ _ _ _ _ _ _ _ c.in-Ok.ensures.ok c.take_out.ensures.disk c.take_out.ensures.puts

pub returns-in-Ok-clause-disk : goal.returns-in-Ok-clause-disk
returns-in-Ok-clause-disk c = told_made _ _ _ (sym c.in-Ok.ensures.ok.here ∙ c.take_out.ensures.disk)

pub returns-in-Ok-clause-others : goal.returns-in-Ok-clause-others
returns-in-Ok-clause-others c = others_twice c.args.self.now.room _ _ _ _ _ _ c.in-Ok.ensures.ok c.take_out.ensures.puts
