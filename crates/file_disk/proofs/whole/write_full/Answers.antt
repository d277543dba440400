use Rattle.std.proofs.Common.{refl, arith, length-drop}
use Rattle.std.proofs.lemmas.List.{take_all}
use Rattle.file_disk.proofs.Writing.{writing_starts, writing_goes_on, writes_failed, writes_done}
use Rattle.file_disk.proofs.whole.write_full.Goals as goal

pub loop-end-init : goal.loop-end-init
loop-end-init g c = writing_starts _ _ _ _ (omega (arith, c.ranges.at.fits))

pub loop-end-preserved : goal.loop-end-preserved
loop-end-preserved g c = writing_goes_on _ _ _ _ _ _ _ _ _ _ c.loop-end.invariant refl (take_all _ _ (omega (arith, length-drop c.loop-end.end c.args.bytes.now))) _
    c.in-Ok.ensures.within c.in-Ok.ensures.retries c.in-Ok.ensures.writes

pub returns-in-Err-clause-writes : goal.returns-in-Err-clause-writes
returns-in-Err-clause-writes g c = writes_failed _ _ _ _ _ _ _ _ _ _ c.loop-end.invariant refl (take_all _ _ (omega (arith, length-drop c.loop-end.end c.args.bytes.now))) _ c.in-Err.ensures.writes

pub returns-clause-writes : goal.returns-clause-writes
returns-clause-writes g c = writes_done _ _ _ _ _ _ _ c.loop-end.invariant (omega arith)
