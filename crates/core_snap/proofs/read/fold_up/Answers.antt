use Rattle.std.proofs.Common.{◌-◌, ◌+◌, ◌/◌, ◌^◌, [], ◌∷◌, ◌++◌, sym, ap, subst, ◌∙◌, rules, arith, List, IsTrue}
use Rattle.merkle_nodes.specs.declared.node.Twig.{Twig}
use Rattle.node_set.specs.Contents.{Content, held, twig_at}
use Rattle.node_set.specs.Paths.{sibling_of}
use Rattle.core_snap.proofs.WayLemmas.{way_numbers}
use Rattle.core_snap.proofs.FoldLemmas.{HasFolded, HasFolded-start, HasFolded-more, trail_at-more, IsHonestTop-start, IsHonestTop-more}
use Rattle.core_snap.specs.Ways.{IsHonestTop}
use Rattle.core_snap.proofs.read.fold_up.Goals as goal

pub loop-level-init : goal.loop-level-init
loop-level-init g c =
    let none = sym c.requires.empty in
    let v = g.V.View.view c.args.view.now in
    record {
      keeps = search rules;
      folded = subst (λ (trail : List Twig). HasFolded c.args.leaf.now c.args.leaf.now c.args.index 0 trail) none
          (HasFolded-start c.args.leaf.now c.args.index c.requires.number c.requires.size);
      shown = λ shows. c.requires.empty;
      honest = λ stands there. subst (λ (trail : List Twig). IsHonestTop v.content.node c.args.index 0 trail c.args.leaf.now) none
          (IsHonestTop-start v.content.node c.args.index c.args.leaf.now there);
    }

pub join_nodes-top-requires-clause-within : goal.join_nodes-top-requires-clause-within
join_nodes-top-requires-clause-within g c =
    let m = (g.V.View.view c.args.view.now).content in
    let low = way_numbers m.length (held m) _ _ c.requires.way.is_held c.requires.way.inside c.loop-level.level (c.args.levels - c.loop-level.level) (omega (arith, c.loop-level-test.true)) in
    omega (arith, c.loop-level.invariant.folded.number, low, c.requires.way.few)

pub loop-level-preserved : goal.loop-level-preserved
loop-level-preserved g c =
    let so_far = c.loop-level.invariant in
    let v = g.V.View.view c.args.view.now in
    let index = c.args.index in
    let level = c.loop-level.level in
    let sibling = c.in-Ok.sibling in
    let next = c.join_nodes-top.result in
    let longer = sym (c.push.ensures ∙ ap (λ (t : Twig). c.loop-level.trail ++ t ∷ []) c.twig.ensures) in
    let number = c.join_nodes-top.ensures.number level so_far.folded.number c.in-Ok.ensures.number in
    record {
      keeps = search rules;
      folded = subst (λ (trail : List Twig). HasFolded c.args.leaf.now next index (level + 1) trail) longer
          (HasFolded-more index level c.loop-level.top next sibling c.loop-level.trail c.join_nodes-top.ensures.twig c.args.leaf.now number
          c.in-Ok.ensures.fits so_far.folded);
      shown = λ shows.
          let still = subst IsTrue (sym so_far.keeps.keeps.shows) shows in
          let beside = ap (λ (m : Content). twig_at m.node level (sibling_of (index / 2 ^ level))) (sym so_far.keeps.keeps.content) ∙ c.in-Ok.ensures.shown still in
          sym longer ∙ trail_at-more v.content.node index level c.loop-level.trail _ beside (so_far.shown shows);
      honest = λ stands there.
          let still = subst IsTrue (sym so_far.keeps.keeps.stands) stands in
          let beside = ap (λ (m : Content). m.node level (sibling_of (index / 2 ^ level))) (sym so_far.keeps.keeps.content) ∙ c.in-Ok.ensures.content still in
          subst (λ (trail : List Twig). IsHonestTop v.content.node index (level + 1) trail next) longer
          (IsHonestTop-more index level c.loop-level.top next sibling c.loop-level.trail c.join_nodes-top.ensures.twig v.content.node
          (c.requires.way.sound stands).pairs beside (so_far.honest stands there));
    }
