use Rattle.std.proofs.Common.{arith}
use Rattle.log_core.proofs.BatchLemmas.{HasPushed-start, HasPushed-step, refused_limit, all_fit, all_held, push_answers}
use Rattle.log_core.proofs.appending.push_all.Goals as goal

pub loop-place-init : goal.loop-place-init
loop-place-init c = HasPushed-start c.args.batch.now c.args.blocks.now c.requires.empty c.requires.no_bytes

pub returns-in-Err-clause-limit : goal.returns-in-Err-clause-limit
returns-in-Err-clause-limit c =
    let answers = push_answers c.push.ensures.fits c.push.ensures.block c.push.ensures.batch c.push.ensures.batch_bytes c.push.ensures.blocks c.push.ensures.bytes in
    refused_limit c.args.batch.now c.args.blocks.now c.loop-place.place c.get.result.now c.loop-place.batch c.push.result (omega arith) c.get.ensures
    c.loop-place.invariant answers c.in-Err.limit c.in-Err.is

pub loop-place-preserved : goal.loop-place-preserved
loop-place-preserved c =
    let answers = push_answers c.push.ensures.fits c.push.ensures.block c.push.ensures.batch c.push.ensures.batch_bytes c.push.ensures.blocks c.push.ensures.bytes in
    HasPushed-step c.args.batch.now c.args.blocks.now c.loop-place.place c.get.result.now c.loop-place.batch c.push.result (omega arith) c.get.ensures
    c.loop-place.invariant answers c.push.new.self c.in-Ok.is c.in-Ok.ensures.ok

pub returns-clause-limit : goal.returns-clause-limit
returns-clause-limit c = all_fit c.args.batch.now c.args.blocks.now c.loop-place.place c.loop-place.batch (omega arith) c.loop-place.invariant

pub returns-clause-held : goal.returns-clause-held
returns-clause-held c = all_held c.args.batch.now c.args.blocks.now c.loop-place.place c.loop-place.batch (omega arith) c.loop-place.invariant

pub returns-clause-count : goal.returns-clause-count
returns-clause-count c = omega (arith, c.loop-place.invariant.blocks)
