use Rattle.std.proofs.Common.{◌-◌, ◌/◌, ◌^◌, arith, ap, length}
use Rattle.node_set.proofs.PathLemmas.{place_fits}
use Rattle.log_view.proofs.StoredNodes.{stored_number}
use Rattle.proof_check.specs.Meets.{seen}
use Rattle.proof_judge.proofs.Seeking.{way_length, way_node_fits, left_above, left_by_way, left_by_view}
use Rattle.proof_judge.proofs.seek.left_at.Goals as goal

pub returns-then-beside-way-clause-left : goal.returns-then-beside-way-clause-left
returns-then-beside-way-clause-left g c = λ p same shut.
    let s = (g.V.View.view c.args.view.now).source in
    let b = seen c.args.block.now in
    let is = c.requires.way in
    left_by_way p s c.args.way.now b same is shut c.args.level _ _ (omega (arith, ap length is.3, way_length b is.0, c.if-beside-way.true)) (omega arith)
    (omega (arith, c.if-offset-eq0.false)) c.requires.fits

pub returns-then-beside-way-clause-most : goal.returns-then-beside-way-clause-most
returns-then-beside-way-clause-most g c =
    let b = seen c.args.block.now in
    let is = c.requires.way in
    way_node_fits b c.args.way.now is.0 c.args.level _ _ is.3 is.2 (omega (arith, ap length is.3, way_length b is.0, c.if-beside-way.true)) (omega arith) c.requires.fits

pub index-requires-clause-offset : goal.index-requires-clause-offset
index-requires-clause-offset g c =
    let fits = place_fits c.args.block.now.index c.args.level (omega (arith, c.requires.tree)) (omega (arith, c.requires.tree)) in
    omega (arith, fits)

pub node-requires : goal.node-requires
node-requires g c =
    let s = (g.V.View.view c.args.view.now).source in
    let b = seen c.args.block.now in
    record {
      stored = stored_number s c.args.level (b.index / 2 ^ c.args.level - 1) _ c.index.ensures.number
          (left_above _ _ b c.args.way.now c.args.level c.requires.way (omega (arith, c.if-beside-way.false)) c.requires.below (omega (arith, c.if-offset-eq0.false)));
    }

pub returns-in-Ok-clause-left : goal.returns-in-Ok-clause-left
returns-in-Ok-clause-left g c = λ p same shut.
    let s = (g.V.View.view c.args.view.now).source in
    left_by_view p s c.args.way.now (seen c.args.block.now) same c.requires.way shut c.args.level _ _ c.index.ensures.number (omega (arith, c.if-offset-eq0.false))
    c.in-Ok.ensures.gives
