use Rattle.std.proofs.Common.{◌≢◌, inr, subst, rules}
use Rattle.merkle_nodes.specs.Roots.{twig_of}
use Rattle.log_view.specs.Views.{Source}
use Rattle.snap_reads.specs.Reads.{GivesTrail}
use Rattle.snap_reads.proofs.Trails.{root_differs}
use Rattle.snap_reads.proofs.read.read_up.Goals as goal

pub returns-then-ne-clause-cause : goal.returns-then-ne-clause-cause
returns-then-ne-clause-cause g c =
    let differ : twig_of c.in-Ok-fold_up.top ≢ twig_of c.args.root.now = search rules in
    let gives = subst (λ (s : Source). GivesTrail s c.args.index c.args.levels c.fold_up.new.trail) c.in-Ok.ensures.keeps.source c.in-Ok-fold_up.ensures.gives in
    inr (inr (root_differs (g.V.View.view c.args.view.now).source c.args.root.now c.in-Ok-fold_up.top c.in-Ok.read.1 c.args.levels c.args.index c.in-Ok.read.0 _ c.fold_up.new.trail
    c.in-Ok.ensures.leaf gives c.in-Ok-fold_up.ensures.top differ))
