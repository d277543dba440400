use Rattle.compact_enc.proofs.Writing.{writes_stop, writes_fail, writes_then}
use Rattle.oplog_form.proofs.header.write_rest.Goals as goal

pub returns-in_err-write_roots : goal.returns-in_err-write_roots
returns-in_err-write_roots c = writes_fail _ _ _ _ _ c.from_residual-in_err-write_roots.ensures.0
    (writes_then _ _ _ _ _ _ _ c.in_ok-write_head.ensures (rw (← c.as_slice.ensures.items) (writes_stop _ _ _ _ _ c.in_err-write_roots.ensures)))

pub returns : goal.returns
returns c =
    writes_then _ _ _ _ _ _ _ c.in_ok-write_head.ensures
    (rw (← c.as_slice.ensures.items) (writes_then _ _ _ _ _ _ _ c.in_ok-write_roots.ensures c.write_fixed.ensures))
