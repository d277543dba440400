use Rattle.std.proofs.Common.{ℕ, [], ◌∷◌, ap, ◌∙◌, arith, length, length-append, rules}
use Rattle.node_set.specs.Closure.{in_closure}
use Rattle.node_set.specs.Contents.{held}
use Rattle.log_view.specs.Views.{Source}
use Rattle.log_change.proofs.Reading.{stored_here, given_more}
use Rattle.log_change.proofs.roots.roots_of.Goals as goal

pub node-requires : goal.node-requires
node-requires g c =
    let m = (g.V.View.view c.args.view.now).source.content in
    record {
      stored = λ depth offset is.
          ap (λ (s : Source). in_closure s.content.length (held s.content) depth offset) c.loop-at.invariant.keeps.source
          ∙ stored_here c.args.to _ _ _ _ c.full_roots-numbers.ensures.numbers c.len-at-end.ensures.len c.loop-at-test.true c.at.ensures
          (in_closure m.length (held m)) c.requires.stored depth offset is;
    }

pub loop-at-preserved : goal.loop-at-preserved
loop-at-preserved g c =
    record {
      keeps = search rules;
      count = ap length c.push.ensures ∙ length-append c.loop-at.roots (c.in-Ok.node ∷ []) ∙ omega (arith, c.loop-at.invariant.count);
      read = given_more c.args.to _ _ _ _ c.full_roots-numbers.ensures.numbers c.len-at-end.ensures.len c.loop-at-test.true c.at.ensures
          (g.V.View.view c.args.view.now).source c.loop-at.roots _ c.in-Ok.node c.loop-at.invariant.read c.push.ensures (search rules);
    }
