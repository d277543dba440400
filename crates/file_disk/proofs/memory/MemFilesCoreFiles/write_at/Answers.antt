use Rattle.std.proofs.Common.{refl, sym}
use Rattle.file_disk.proofs.Fronts.{front_is, writes_front, writes_failed, writes_none}
use Rattle.file_disk.proofs.memory.MemFilesCoreFiles.write_at.Goals as goal

pub returns-in-Ok-write-clause-writes : goal.returns-in-Ok-write-clause-writes
returns-in-Ok-write-clause-writes c =
    writes_front _ _ c.args.self.now.disk c.write.new.self _ _ _ _ _ _ _ _ _ (front_is _ _ _ _ (sym c.in-Ok.ensures.front)) (c.in-Ok-write.ensures.writes refl)

pub returns-in-Err-write-clause-writes : goal.returns-in-Err-write-clause-writes
returns-in-Err-write-clause-writes c =
    writes_failed _ _ c.args.self.now.disk c.write.new.self _ _ _ _ _ _ _ _ c.in-Ok.len _ (c.in-Err-write.ensures.writes refl)

pub returns-in-Err-clause-writes : goal.returns-in-Err-clause-writes
returns-in-Err-clause-writes c = writes_none _ _ _ _ c.args.self.now.disk _ _ _ _ _ _
