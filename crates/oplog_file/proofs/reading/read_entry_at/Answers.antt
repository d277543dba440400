use Rattle.std.proofs.Common.{arith}
use Rattle.oplog_file.proofs.BadPlaces.{entry_bad}
use Rattle.oplog_file.proofs.reading.read_entry_at.Goals as goal

pub overflow_add-result-in-Err : goal.overflow_add-result-in-Err
overflow_add-result-in-Err c = omega (arith, c.requires.few, c.requires.within, entry_bad c.args.payload.now c.in-Err.bad c.in-Err.ensures.exact)
