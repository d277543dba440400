use Rattle.compact_enc.proofs.Writing.{writes_put, writes_stop, writes_fail, writes_then}
use Rattle.proof_form.proofs.proof.write_upgrade.Goals as goal

pub returns-in_err-write_twigs : goal.returns-in_err-write_twigs
returns-in_err-write_twigs c =
    let u = c.in-Some.upgrade in
    rw c.in-Some.is (writes_fail _ _ _ _ _ c.from_residual-in_err-write_twigs.ensures.0
    (writes_then _ _ _ _ _ _ _ c.in_ok-write_numbers.ensures (rw (← c.as_slice.ensures.items) (writes_stop _ u.signature _ _ _ c.in_err-write_twigs.ensures))))

pub returns : goal.returns
returns c =
    let u = c.in-Some.upgrade in
    rw c.in-Some.is
    (writes_then _ _ _ _ _ _ _ c.in_ok-write_numbers.ensures
    (rw (← c.as_slice.ensures.items) (writes_then _ u.signature _ _ _ _ _ c.in_ok-write_twigs.ensures
    (writes_put u.signature c.write_twigs.new.to c.put_fixed.new.self c.put_fixed.result c.put_fixed.ensures.same c.put_fixed.ensures.puts))))
