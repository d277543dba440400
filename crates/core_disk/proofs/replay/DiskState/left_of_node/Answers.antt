use Rattle.std.proofs.Common.{arith}
use Rattle.node_set.proofs.PathLemmas.{place_fits}
use Rattle.core_disk.proofs.replay.DiskState.left_of_node.Goals as goal

pub index-requires-clause-offset : goal.index-requires-clause-offset
index-requires-clause-offset c =
    let fits = place_fits c.args.index c.args.level (omega (arith, c.requires.fits)) (omega (arith, c.requires.fits)) in
    omega (arith, fits)
