use Rattle.std.proofs.Common.{◌≡◌, ℕ, List, Some, map, refl, sym, ap, subst, ◌∙◌}
use Rattle.commit_book.specs.declared.commit.Commit.TheVariants.{Reorg}
use Rattle.merkle_nodes.specs.declared.node.Node.{Node}
use Rattle.merkle_nodes.specs.Roots.{twig_of}
use Rattle.node_set.specs.Contents.{roots}
use Rattle.core_forks.specs.Reorganise.{kept_of, reorganise_content}
use Rattle.log_view.specs.Views.{Source}
use Rattle.log_change.specs.LogChange.{AreFresh, Ascend}
use Rattle.log_change.proofs.Forks.{reorganise_change}
use Rattle.log_change.proofs.Rooted.{fresh_ascend, put_same}
use Rattle.log_change.proofs.reorganisation.reorganise.Goals as goal

pub returns-clause-order : goal.returns-clause-order
returns-clause-order g c =
    let s = (g.V.View.view c.args.view.now).source in
    let before = c.as_slice-2.ensures.items ∙ c.roots.ensures ∙ ap (λ (v : Source). roots v.content) c.in-Ok.ensures.looks.keeps.source in
    subst (λ (ns : List Node). Ascend ns) (sym (put_same _ _ _ _ _ c.put_fresh.ensures before c.as_slice-3.ensures.items))
    (fresh_ascend c.args.head.length (roots s.content) c.args.nodes.now c.requires.shape)

pub returns-clause-leads : goal.returns-clause-leads
returns-clause-leads g c = λ shows sound.
    let s = (g.V.View.view c.args.view.now).source in
    let head = c.args.head in
    let before = c.as_slice-2.ensures.items ∙ c.roots.ensures ∙ ap (λ (v : Source). roots v.content) c.in-Ok.ensures.looks.keeps.source in
    let is = reorganise_change s.content head c.args.nodes.now sound.closed c.head-end.ensures.usable.below c.requires.shape in
    let kept : c.in-Ok.kept ≡ kept_of s.content head.length (map twig_of c.args.nodes.now) =
    c.in-Ok.ensures.kept shows sound ∙ ap (λ (ns : List Node). kept_of s.content head.length (map twig_of ns)) c.as_slice.ensures.items in
    record {
      head_is = refl;
      roots_are = c.copy.ensures ∙ is.roots_are;
      commit_is = ap (λ (k : ℕ). Some (Reorg head.fork head.length k)) kept;
      blocks = λ index. rw (kept, c.head-end.ensures.length) (is.blocks index);
      nodes = subst (AreFresh s.content (reorganise_content head.fork head.length (map twig_of c.args.nodes.now) head.signature s.content))
          (sym (put_same _ _ _ _ _ c.put_fresh.ensures before c.as_slice-3.ensures.items)) is.nodes;
    }
