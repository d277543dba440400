use Rattle.compact_enc.proofs.Writing.{writes_stop, writes_fail, writes_then}
use Rattle.proof_form.proofs.request.write_asked.Goals as goal

pub returns-in_err-write_want-2 : goal.returns-in_err-write_want-2
returns-in_err-write_want-2 c = writes_fail _ _ _ _ _ c.from_residual-in_err-write_want-2.ensures.0
    (writes_then _ _ _ _ _ _ _ c.in_ok-write_want.ensures (writes_stop _ _ _ _ _ c.in_err-write_want-2.ensures))

pub returns-in_err-write_seek : goal.returns-in_err-write_seek
returns-in_err-write_seek c = writes_fail _ _ _ _ _ c.from_residual-in_err-write_seek.ensures.0
    (writes_then _ _ _ _ _ _ _ c.in_ok-write_want.ensures
    (writes_then _ _ _ _ _ _ _ c.in_ok-write_want-2.ensures (writes_stop _ _ _ _ _ c.in_err-write_seek.ensures)))

pub returns : goal.returns
returns c =
    writes_then _ _ _ _ _ _ _ c.in_ok-write_want.ensures
    (writes_then _ _ _ _ _ _ _ c.in_ok-write_want-2.ensures
    (writes_then _ _ _ _ _ _ _ c.in_ok-write_seek.ensures c.write_reach.ensures))
