use Rattle.std.proofs.Common.{◌∙◌, ap, take, length}
use Rattle.oplog_file.proofs.FillLaws.{spelled_with}
use Rattle.oplog_file.proofs.writing.fill.Goals as goal

pub returns-clause-spelled : goal.returns-clause-spelled
returns-clause-spelled c = spelled_with c.args.epoch c.args.number _ _ _ c.seal.ensures.sealed c.put_payload.ensures.payload

pub returns-clause-payload : goal.returns-clause-payload
returns-clause-payload c = ap (take (length c.args.entry.now)) c.seal.ensures.behind ∙ c.put_payload.ensures.payload
