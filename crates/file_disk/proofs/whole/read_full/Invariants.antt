use Rattle.std.proofs.Common.{◌-◌, length}
use Rattle.file_disk.proofs.Reading.{IsReading}
use Rattle.file_disk.proofs.whole.read_full.Given as goal

abbrev pub invariant-loop-end : goal.invariant-loop-end
invariant-loop-end g l = IsReading (g.F.CoreFiles.area l.file) l.at l.fn.into l.into (g.F.CoreFiles.files l.fn.files) (g.F.CoreFiles.files l.files) l.end

abbrev pub decreases-loop-end : goal.decreases-loop-end
decreases-loop-end g l = length l.into - l.end
