use Rattle.std.proofs.Common.{◌-◌, ◌+◌, ◌/◌, ◌^◌, arith}
use Rattle.flat_tree.specs.declared.limits.TheConstants.{MAX_NODE}
use Rattle.node_set.specs.Contents.{held}
use Rattle.node_set.specs.Paths.{sibling_of}
use Rattle.node_set.proofs.PathLemmas.{place_fits}
use Rattle.core_snap.proofs.WayLemmas.{sibling_stored, way_numbers}
use Rattle.log_view.proofs.StoredNodes.{stored_number}
use Rattle.snap_reads.proofs.Trails.{given_low}
use Rattle.snap_reads.proofs.read.sibling_over.Goals as goal

pub index-own-requires-clause-offset : goal.index-own-requires-clause-offset
index-own-requires-clause-offset g c =
    place_fits c.args.index c.args.level (omega (arith, c.requires.path.fits)) (omega (arith, c.requires.path.fits, c.requires.below))

pub node-requires : goal.node-requires
node-requires g c =
    let s = (g.V.View.view c.args.view.now).source in
    let beside = c.sibling.ensures.sibling c.args.level (c.args.index / 2 ^ c.args.level) c.index-own.ensures.number in
    record {
      stored = stored_number s c.args.level (sibling_of (c.args.index / 2 ^ c.args.level)) _ beside
          (sibling_stored _ _ _ _ c.requires.path.is_held c.requires.path.inside c.args.level (c.args.levels - (c.args.level + 1)) (omega (arith, c.requires.below)));
    }

pub returns-clause-low : goal.returns-clause-low
returns-clause-low g c =
    let s = (g.V.View.view c.args.view.now).source in
    let low = way_numbers s.content.length (held s.content) _ _ c.requires.path.is_held c.requires.path.inside c.args.level (c.args.levels - c.args.level) (omega (arith, c.requires.below)) in
    given_low s c.sibling.result MAX_NODE c.node.result (omega (arith, low, c.sibling.ensures.fits, c.index-own.ensures.number, c.requires.path.few)) c.node.ensures.gives
