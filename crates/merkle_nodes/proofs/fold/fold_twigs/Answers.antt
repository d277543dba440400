use Rattle.std.proofs.Common.{rules}
use Rattle.merkle_nodes.proofs.Paths.{HasClimbed-step, HasClimbed-done, twig_fits}
use Rattle.merkle_nodes.proofs.fold.fold_twigs.Goals as goal

pub loop-sibling-preserved : goal.loop-sibling-preserved
loop-sibling-preserved c = rw c.join_twigs-top.ensures (
    HasClimbed-step c.args.offset c.args.node c.args.trail.now c.loop-sibling.above c.loop-sibling.top _ c.loop-sibling.sibling-index
    c.loop-sibling-test.true c.requires.few (search rules) (twig_fits c.args.trail.now c.loop-sibling.sibling-index _ c.requires.trail c.loop-sibling-test.true) c.loop-sibling.invariant
    )

pub returns-clause-offset : goal.returns-clause-offset
returns-clause-offset c = (HasClimbed-done c.args.offset c.args.node c.args.trail.now c.loop-sibling.above c.loop-sibling.top _ c.loop-sibling-test.false c.loop-sibling.invariant).0

pub returns-clause-top : goal.returns-clause-top
returns-clause-top c = (HasClimbed-done c.args.offset c.args.node c.args.trail.now c.loop-sibling.above c.loop-sibling.top _ c.loop-sibling-test.false c.loop-sibling.invariant).1
