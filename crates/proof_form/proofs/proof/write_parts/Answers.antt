use Rattle.compact_enc.proofs.Writing.{writes_stop, writes_fail, writes_then}
use Rattle.proof_form.proofs.proof.write_parts.Goals as goal

pub returns-in_err-write_hash : goal.returns-in_err-write_hash
returns-in_err-write_hash c = writes_fail _ _ _ _ _ c.from_residual-in_err-write_hash.ensures.0
    (writes_then _ _ _ _ _ _ _ c.in_ok-write_block.ensures (writes_stop _ _ _ _ _ c.in_err-write_hash.ensures))

pub returns-in_err-write_seek : goal.returns-in_err-write_seek
returns-in_err-write_seek c = writes_fail _ _ _ _ _ c.from_residual-in_err-write_seek.ensures.0
    (writes_then _ _ _ _ _ _ _ c.in_ok-write_block.ensures
    (writes_then _ _ _ _ _ _ _ c.in_ok-write_hash.ensures (writes_stop _ _ _ _ _ c.in_err-write_seek.ensures)))

pub returns : goal.returns
returns c =
    writes_then _ _ _ _ _ _ _ c.in_ok-write_block.ensures
    (writes_then _ _ _ _ _ _ _ c.in_ok-write_hash.ensures
    (writes_then _ _ _ _ _ _ _ c.in_ok-write_seek.ensures c.write_upgrade.ensures))
