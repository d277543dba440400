use Rattle.file_disk.proofs.Retrying.{IsRereading}
use Rattle.file_disk.proofs.whole.read_some.Given as goal

abbrev pub invariant-loop : goal.invariant-loop
invariant-loop g l = IsRereading l.fn.into l.into (g.F.CoreFiles.files l.fn.files) (g.F.CoreFiles.files l.files) l.counter
