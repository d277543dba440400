use Rattle.std.proofs.Common.{◌-◌, length, refl, arith, length-drop}
use Rattle.std.proofs.lemmas.List.{take_all}
use Rattle.file_disk.proofs.Reading.{reading_goes_on, reads_end, put_end}
use Rattle.file_disk.proofs.whole.read_full.Goals as goal

pub loop-end-preserved : goal.loop-end-preserved
loop-end-preserved g c = reading_goes_on _ _ _ _ _ _ _ _ _ _ _ _ _ c.loop-end.invariant refl
    (take_all _ _ (omega (arith, length-drop c.loop-end.end c.loop-end.into))) (put_end _ (length c.loop-end.into - c.loop-end.end) c.loop-end.into _ (omega arith)) _
    c.in-Ok.ensures.within (omega arith) c.in-Ok.ensures.retries c.in-Ok.ensures.reads

pub returns-in-Ok-eq0-clause-reads : goal.returns-in-Ok-eq0-clause-reads
returns-in-Ok-eq0-clause-reads g c = reads_end _ _ _ _ _ _ _ _ _ _ _ _ _ c.loop-end.invariant refl
    (take_all _ _ (omega (arith, length-drop c.loop-end.end c.loop-end.into))) (put_end _ (length c.loop-end.into - c.loop-end.end) c.loop-end.into _ (omega arith)) _ (omega arith) c.in-Ok-eq0.ensures.reads
