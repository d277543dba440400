use Rattle.std.proofs.Common.{rules, subst, arith}
use Rattle.log_view.specs.Views.{Source}
use Rattle.log_view.specs.Walks.{IsLeftAt}
use Rattle.log_view.proofs.LeftSums.{left_none, left_more, left_all}
use Rattle.log_view.proofs.walk.left_of_path.Goals as goal

pub loop-level-init : goal.loop-level-init
loop-level-init g c = record { keeps = search rules; left = left_none _ _; most = omega arith }

pub loop-level-preserved : goal.loop-level-preserved
loop-level-preserved g c =
    let so_far = c.loop-level.invariant in
    record {
      keeps = search rules;
      left = left_more _ _ _ _ _ so_far.left (subst (λ (s : Source). IsLeftAt s c.args.index c.loop-level.level c.in-Ok.left) so_far.keeps.source c.in-Ok.ensures.left);
      most = omega (arith, so_far.most, c.in-Ok.ensures.most);
    }

pub returns-clause-left : goal.returns-clause-left
returns-clause-left g c = left_all _ _ _ _ _ (omega arith) c.loop-level.invariant.left
