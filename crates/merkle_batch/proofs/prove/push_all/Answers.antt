use Rattle.std.proofs.Common.{◌<◌, length, arith}
use Rattle.merkle_batch.proofs.Pushing.{at_ok, HasPushed-start, next_fits, HasPushed-step, HasPushed-all}
use Rattle.merkle_batch.proofs.prove.push_all.Goals as goal

pub loop-place-init : goal.loop-place-init
loop-place-init c = HasPushed-start c.args.blocks.now c.args.batch.now c.requires.empty

pub loop-place-preserved : goal.loop-place-preserved
loop-place-preserved c =
    let less : c.loop-place.place < length c.args.blocks.now = omega arith in
    let fits = next_fits c.args.blocks.now c.loop-place.place c.get.result.now c.loop-place.batch c.requires.fits
    less c.get.ensures c.loop-place.invariant in
    let pushes = at_ok c.push.result (c.push.ensures.fits.1 fits) c.push.ensures.ok in
    HasPushed-step c.args.blocks.now c.loop-place.place c.get.result.now c.loop-place.batch c.push.new.self less c.get.ensures pushes c.loop-place.invariant

pub returns-clause-roots : goal.returns-clause-roots
returns-clause-roots c = (HasPushed-all c.args.blocks.now c.loop-place.place c.loop-place.batch c.requires.fits.few (omega arith) c.loop-place.invariant).0

pub returns-clause-nodes : goal.returns-clause-nodes
returns-clause-nodes c = (HasPushed-all c.args.blocks.now c.loop-place.place c.loop-place.batch c.requires.fits.few (omega arith) c.loop-place.invariant).1
