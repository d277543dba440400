use Rattle.oplog_file.proofs.FillLaws.{filled}
use Rattle.oplog_file.proofs.writing.put_payload.Goals as goal

pub returns-clause-payload : goal.returns-clause-payload
returns-clause-payload c = filled _ c.args.frame.now _ _ c.copy_from_slice.ensures.after c.requires
