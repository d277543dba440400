use Rattle.std.proofs.Common.{◌-◌, ◌/◌, ◌^◌, arith}
use Rattle.node_set.proofs.PathLemmas.{place_fits}
use Rattle.node_set.proofs.OffsetSums.{left_in_closure}
use Rattle.log_view.proofs.StoredNodes.{stored_number}
use Rattle.log_view.proofs.walk.left_at.Goals as goal

pub index-requires-clause-offset : goal.index-requires-clause-offset
index-requires-clause-offset g c =
    let fits = place_fits c.args.index c.args.level (omega (arith, c.requires.fits)) (omega (arith, c.requires.fits)) in
    omega (arith, fits)

pub node-requires : goal.node-requires
node-requires g c =
    let s = (g.V.View.view c.args.view.now).source in
    let offset = c.args.index / 2 ^ c.args.level - 1 in
    record {
      stored = stored_number s c.args.level offset _ c.index.ensures.number
          (left_in_closure _ _ _ _ c.requires.held c.requires.within c.requires.below c.if-offset-eq0.false);
    }
