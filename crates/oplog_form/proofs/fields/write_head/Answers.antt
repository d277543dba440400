use Rattle.compact_enc.proofs.Writing.{writes_stop, writes_fail, writes_then}
use Rattle.oplog_form.proofs.fields.write_head.Goals as goal

pub returns-in_err-write_number-2 : goal.returns-in_err-write_number-2
returns-in_err-write_number-2 c = writes_fail _ _ _ _ _ c.from_residual-in_err-write_number-2.ensures.0
    (writes_then _ _ _ _ _ _ _ c.in_ok-write_number.ensures (writes_stop _ _ _ _ _ c.in_err-write_number-2.ensures))

pub returns : goal.returns
returns c = writes_then _ _ _ _ _ _ _ c.in_ok-write_number.ensures (writes_then _ _ _ _ _ _ _ c.in_ok-write_number-2.ensures c.write_fixed.ensures)
