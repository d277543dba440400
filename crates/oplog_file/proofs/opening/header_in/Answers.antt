use Rattle.oplog_file.proofs.OpenLaws.{header_here, header_there}
use Rattle.oplog_file.proofs.opening.header_in.Goals as goal

pub returns-then-is_header-clause-told : goal.returns-then-is_header-clause-told
returns-then-is_header-clause-told c =
    let is = c.is_header.ensures.0 c.if-is_header.true in
    header_here c.args.slot c.args.slots.now c.slot_bytes.result.now c.in-Some.front c.slot_bytes.ensures is.1 c.in-Some.ensures.told is.0 c.in-Some.ensures.few

pub returns-then-is_header-clause-within : goal.returns-then-is_header-clause-within
returns-then-is_header-clause-within c =
    let is = c.is_header.ensures.0 c.if-is_header.true in
    header_there c.args.slot c.args.slots.now c.slot_bytes.result.now c.in-Some.front c.slot_bytes.ensures is.1 c.in-Some.ensures.within
