use Rattle.compact_enc.proofs.Writing.{writes_then}
use Rattle.oplog_form.proofs.fields.write_pair.Goals as goal

pub returns : goal.returns
returns c = writes_then _ _ _ _ _ _ _ c.in_ok-write_number.ensures c.write_number-2.ensures
