use Rattle.std.proofs.Common.{sym, subst}
use Rattle.log_view.specs.Views.{Source, IsStored}
use Rattle.log_view.proofs.StoredNodes.{stored_number}
use Rattle.core_snap.proofs.WayLemmas.{leaf_stored}
use Rattle.snap_reads.proofs.read.read_leaf.Goals as goal

pub node-requires : goal.node-requires
node-requires g c =
    let s = (g.V.View.view c.args.view.now).source in
    let stored = stored_number s 0 c.args.index c.index.result c.index.ensures.number (leaf_stored _ _ _ _ c.requires.path.is_held c.requires.path.inside) in
    record { stored = subst (λ (s : Source). IsStored s c.index.result) (sym c.block.ensures.looks.keeps.source) stored }
