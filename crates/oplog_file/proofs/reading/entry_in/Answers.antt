use Rattle.oplog_file.proofs.ReadLaws.{entry_here}
use Rattle.oplog_file.proofs.reading.entry_in.Goals as goal

pub returns-then-is_entry-clause-counts : goal.returns-then-is_entry-clause-counts
returns-then-is_entry-clause-counts c =
    let is = c.is_entry.ensures.0 c.if-is_entry.true in
    entry_here c.args.epoch c.args.number _ _ _ c.args.bytes.now c.in-Some.ensures.told is.0 is.1 is.2 c.in-Some.ensures.within
