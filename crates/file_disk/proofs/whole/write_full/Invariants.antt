use Rattle.std.proofs.Common.{◌-◌, length}
use Rattle.file_disk.proofs.Writing.{IsWriting}
use Rattle.file_disk.proofs.whole.write_full.Given as goal

abbrev pub invariant-loop-end : goal.invariant-loop-end
invariant-loop-end g l = IsWriting (g.F.CoreFiles.area l.file) l.at l.bytes (g.F.CoreFiles.files l.fn.files) (g.F.CoreFiles.files l.files) l.end

abbrev pub decreases-loop-end : goal.decreases-loop-end
decreases-loop-end g l = length l.bytes - l.end
