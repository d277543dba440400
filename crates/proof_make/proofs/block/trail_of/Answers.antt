use Rattle.std.proofs.Common.{rules}
use Rattle.merkle_nodes.specs.Bundle.{TwigFits}
use Rattle.proof_make.proofs.Kept.{all_more, count_more}
use Rattle.proof_make.proofs.Siblings.{trail_next}
use Rattle.proof_make.proofs.block.trail_of.Goals as goal

pub loop-level-preserved : goal.loop-level-preserved
loop-level-preserved g c =
    let so_far = c.loop-level.invariant in
    let view = g.V.View.view in
    record {
      keeps = search rules;
      count = count_more _ _ _ _ c.push.ensures so_far.count;
      fits = all_more TwigFits _ _ _ c.push.ensures so_far.fits c.in-Ok.ensures.fits;
      trail = trail_next (view c.args.view.now) (view c.loop-level.view) c.args.want.now.index c.loop-level.level _ _ _ so_far.keeps.keeps
          so_far.trail c.push.ensures
          c.in-Ok.ensures.twig;
    }
