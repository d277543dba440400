use Rattle.std.proofs.Common.{arith}
use Rattle.node_set.proofs.PathLemmas.{place_fits}
use Rattle.log_view.proofs.walk.node_over.Goals as goal

pub index-requires-clause-offset : goal.index-requires-clause-offset
index-requires-clause-offset c = place_fits c.args.index c.args.level (omega (arith, c.requires)) (omega (arith, c.requires))
