use Rattle.std.proofs.Common.{◌-◌, ◌+◌, ◌/◌, ◌^◌, [], ◌∷◌, ◌++◌, sym, ap, subst, ◌∙◌, rules, arith, List}
use Rattle.flat_tree.specs.Subtrees.{number}
use Rattle.merkle_nodes.specs.declared.node.Twig.{Twig}
use Rattle.node_set.specs.Contents.{held}
use Rattle.node_set.specs.Paths.{sibling_of}
use Rattle.core_snap.proofs.WayLemmas.{way_numbers}
use Rattle.core_snap.proofs.FoldLemmas.{HasFolded, HasFolded-start, HasFolded-more}
use Rattle.log_view.specs.Views.{Source, GivesNode}
use Rattle.snap_reads.specs.Reads.{GivesTrail}
use Rattle.snap_reads.proofs.Trails.{trail_none, trail_more}
use Rattle.snap_reads.proofs.read.fold_up.Goals as goal

pub loop-level-init : goal.loop-level-init
loop-level-init g c =
    let none = sym c.requires.empty in
    record {
      keeps = search rules;
      folded = subst (λ (trail : List Twig). HasFolded c.args.leaf.now c.args.leaf.now c.args.index 0 trail) none
          (HasFolded-start c.args.leaf.now c.args.index c.requires.number c.requires.size);
      gives = subst (λ (trail : List Twig). GivesTrail (g.V.View.view c.args.view.now).source c.args.index 0 trail) none (trail_none _ c.args.index);
    }

pub join_nodes-top-requires-clause-within : goal.join_nodes-top-requires-clause-within
join_nodes-top-requires-clause-within g c =
    let m = (g.V.View.view c.args.view.now).source.content in
    let low = way_numbers m.length (held m) _ _ c.requires.path.is_held c.requires.path.inside c.loop-level.level (c.args.levels - c.loop-level.level) (omega (arith, c.loop-level-test.true)) in
    omega (arith, c.loop-level.invariant.folded.number, low, c.requires.path.few)

pub loop-level-preserved : goal.loop-level-preserved
loop-level-preserved g c =
    let so_far = c.loop-level.invariant in
    let s = (g.V.View.view c.args.view.now).source in
    let index = c.args.index in
    let level = c.loop-level.level in
    let sibling = c.in-Ok.sibling in
    let next = c.join_nodes-top.result in
    let longer = sym (c.push.ensures ∙ ap (λ (t : Twig). c.loop-level.trail ++ t ∷ []) c.twig.ensures) in
    let numbered = c.join_nodes-top.ensures.number level so_far.folded.number c.in-Ok.ensures.gives.numbered in
    let given = subst (λ (s : Source). GivesNode s (number level (sibling_of (index / 2 ^ level))) sibling) so_far.keeps.source c.in-Ok.ensures.gives in
    record {
      keeps = search rules;
      folded = subst (λ (trail : List Twig). HasFolded c.args.leaf.now next index (level + 1) trail) longer
          (HasFolded-more index level c.loop-level.top next sibling c.loop-level.trail c.join_nodes-top.ensures.twig c.args.leaf.now numbered
          c.in-Ok.ensures.fits so_far.folded);
      gives = subst (GivesTrail s index (level + 1)) longer (trail_more s index level c.loop-level.trail sibling so_far.gives given);
    }
