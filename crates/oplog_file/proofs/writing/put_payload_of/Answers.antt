use Rattle.std.proofs.Common.{arith}
use Rattle.oplog_file.proofs.FillLaws.{filled_front}
use Rattle.oplog_file.proofs.writing.put_payload_of.Goals as goal

pub returns-clause-payload : goal.returns-clause-payload
returns-clause-payload c = filled_front _ _ c.args.frame.now _ _ (omega (arith, c.requires.room)) c.write_header.ensures.place c.write_header.ensures.payload
