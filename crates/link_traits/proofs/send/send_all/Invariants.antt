use Rattle.std.proofs.Common.{length}
use Rattle.link_traits.proofs.Sending.{HasSent}
use Rattle.link_traits.proofs.send.send_all.Given as goal

abbrev pub invariant-loop-rest : goal.invariant-loop-rest
invariant-loop-rest g l = HasSent (g.L.Link.link l.fn.link) (g.L.Link.link l.link) l.bytes l.rest

abbrev pub decreases-loop-rest : goal.decreases-loop-rest
decreases-loop-rest g l = length l.rest
