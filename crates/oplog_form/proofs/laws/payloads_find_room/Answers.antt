use Rattle.oplog_form.proofs.Sizes.{header_most, entry_most}
use Rattle.oplog_form.proofs.laws.payloads_find_room.Goals as goal

pub returns-clause-header : goal.returns-clause-header
returns-clause-header c = header_most

pub returns-clause-entry : goal.returns-clause-entry
returns-clause-entry c = entry_most
