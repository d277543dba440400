use Rattle.std.proofs.Common.{length}
use Rattle.outside_traits.proofs.Writing.{HasWritten}
use Rattle.outside_traits.proofs.sink.write_all.Given as goal

abbrev pub invariant-loop-rest : goal.invariant-loop-rest
invariant-loop-rest g l = HasWritten (g.S.Sink.sink l.fn.sink) (g.S.Sink.sink l.sink) l.bytes l.rest

abbrev pub decreases-loop-rest : goal.decreases-loop-rest
decreases-loop-rest g l = length l.rest
