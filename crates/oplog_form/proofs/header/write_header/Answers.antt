use Rattle.compact_enc.proofs.Writing.{writes_stop, writes_fail, writes_then}
use Rattle.oplog_form.specs.Headers.{header_spelling}
use Rattle.oplog_form.proofs.header.write_header.Goals as goal

pub returns-in_err-write_fixed : goal.returns-in_err-write_fixed
unfolding header_spelling
returns-in_err-write_fixed c = writes_fail _ _ _ _ _ c.from_residual-in_err-write_fixed.ensures.0
    (writes_then _ _ _ _ _ _ _ c.in_ok-write_number.ensures (writes_stop _ _ _ _ _ c.in_err-write_fixed.ensures))

pub returns : goal.returns
unfolding header_spelling
returns c = writes_then _ _ _ _ _ _ _ c.in_ok-write_number.ensures (writes_then _ _ _ _ _ _ _ c.in_ok-write_fixed.ensures c.write_rest.ensures)
