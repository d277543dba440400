use Rattle.std.proofs.Common.{rules}
use Rattle.core_disk.specs.InHand.{opened_of}
use Rattle.core_disk.proofs.StartLemmas.{starts_ok}
use Rattle.core_disk.proofs.opening.start_state.Goals as goal

pub returns-in-Ok-clause-starts : goal.returns-in-Ok-clause-starts
returns-in-Ok-clause-starts g c honest =
    starts_ok c.args.id.now c.args.epoch c.args.header.now (g.D.Disk.disk c.args.disk.now).reads (search rules) c.in-Ok.held (opened_of c.new.result) c.new.ensures (c.in-Ok.ensures.tells honest)
