use Rattle.oplog_file.specs.declared.layout.TheConstants.{SLOT_BYTES}
use Rattle.oplog_file.proofs.OpenLaws.{slot_part}
use Rattle.oplog_file.proofs.opening.slot_bytes.Goals as goal

pub returns : goal.returns
returns c = slot_part c.min.result c.min-2.result c.args.at SLOT_BYTES c.args.slots.now c.min.ensures c.min-2.ensures
