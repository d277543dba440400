use Rattle.std.proofs.Common.{length}
use Rattle.file_disk.proofs.Retrying.{IsRewriting}
use Rattle.file_disk.proofs.whole.write_some.Given as goal

abbrev pub invariant-loop : goal.invariant-loop
invariant-loop g l = IsRewriting (g.F.CoreFiles.area l.file) l.at (length l.bytes) (g.F.CoreFiles.files l.fn.files) (g.F.CoreFiles.files l.files) l.counter
