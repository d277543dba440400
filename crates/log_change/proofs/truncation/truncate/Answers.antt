use Rattle.std.proofs.Common.{List, refl, sym, ap, subst, ◌∙◌}
use Rattle.merkle_nodes.specs.declared.node.Node.{Node}
use Rattle.node_set.specs.Contents.{roots}
use Rattle.node_set.specs.Changes.{truncate_content}
use Rattle.log_view.specs.Views.{Source}
use Rattle.log_change.specs.LogChange.{AreFresh, Ascend}
use Rattle.log_change.proofs.Forks.{truncate_change}
use Rattle.log_change.proofs.Rooted.{fresh_ascend, put_same}
use Rattle.log_change.proofs.truncation.truncate.Goals as goal

pub returns-clause-order : goal.returns-clause-order
returns-clause-order g c =
    let s = (g.V.View.view c.args.view.now).source in
    let before = c.as_slice.ensures.items ∙ c.roots.ensures ∙ ap (λ (v : Source). roots v.content) c.in-Ok.ensures.looks.keeps.source in
    subst (λ (ns : List Node). Ascend ns) (sym (put_same _ _ _ _ _ c.put_fresh.ensures before c.as_slice-2.ensures.items))
    (fresh_ascend c.args.to (roots s.content) c.in-Ok.roots c.in-Ok.ensures.roots.numbered)

pub returns-clause-leads : goal.returns-clause-leads
returns-clause-leads g c = λ shows signature.
    let s = (g.V.View.view c.args.view.now).source in
    let before = c.as_slice.ensures.items ∙ c.roots.ensures ∙ ap (λ (v : Source). roots v.content) c.in-Ok.ensures.looks.keeps.source in
    let is = truncate_change s.content c.args.to c.args.fork signature c.in-Ok.roots c.head-head.ensures.usable.below (c.in-Ok.ensures.roots.shown shows) in
    record {
      head_is = refl;
      roots_are = is.roots_are;
      commit_is = refl;
      blocks = λ index. rw c.head-head.ensures.length (is.blocks index);
      nodes = subst (AreFresh s.content (truncate_content c.args.to c.args.fork signature s.content))
          (sym (put_same _ _ _ _ _ c.put_fresh.ensures before c.as_slice-2.ensures.items)) is.nodes;
    }
