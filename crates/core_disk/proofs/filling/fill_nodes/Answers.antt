use Rattle.std.proofs.Common.{rules, Err, Ok, subst}
use Rattle.disk_trait.specs.declared.disk.Area.TheVariants.{Tree}
use Rattle.bit_field.specs.Places.{has}
use Rattle.node_set.specs.Nodes.{values_of}
use Rattle.oplog_file.proofs.ConsultLaws.{consults_then, honest_still}
use Rattle.core_disk.specs.Filling.{FillsAt}
use Rattle.core_disk.proofs.FillLemmas.{filled_none, filled_more, filled_bad}
use Rattle.core_disk.proofs.filling.fill_nodes.Goals as goal

pub loop-index-init : goal.loop-index-init
loop-index-init g c =
    let disk = g.D.Disk.disk c.args.disk.now in (
      λ honest. filled_none (disk.reads Tree) c.args.length (has c.args.held.now) (values_of c.args.nodes.now),
      λ depth offset twig there. there,
      search rules,
    )

pub loop-index-preserved : goal.loop-index-preserved
loop-index-preserved g c =
    let old = g.D.Disk.disk c.args.disk.now in
    let mid = g.D.Disk.disk c.loop-index.disk in
    let so_far = c.loop-index.invariant.2 in (
      λ honest.
          let same = ((so_far.keeps honest).each Tree).reads in
          filled_more (old.reads Tree) c.args.length (has c.args.held.now) (values_of c.args.nodes.now) c.loop-index.index (values_of c.loop-index.nodes) (values_of c.fill_node.new.nodes)
          (c.loop-index.invariant.0 honest)
          (subst (λ tree. FillsAt tree c.args.length (has c.args.held.now) c.loop-index.index (values_of c.loop-index.nodes) (values_of c.fill_node.new.nodes) (Ok tt)) same
          (c.in-Ok.ensures.fills (honest_still old mid _ so_far honest))),
      λ depth offset twig there. c.in-Ok.ensures.kept depth offset twig (c.loop-index.invariant.1 depth offset twig there),
      consults_then old mid _ _ _ so_far c.in-Ok.ensures.consults,
    )

pub returns-in-Err-clause-fills : goal.returns-in-Err-clause-fills
returns-in-Err-clause-fills g c honest =
    let old = g.D.Disk.disk c.args.disk.now in
    let mid = g.D.Disk.disk c.loop-index.disk in
    let so_far = c.loop-index.invariant.2 in
    let same = ((so_far.keeps honest).each Tree).reads in
    filled_bad (old.reads Tree) c.args.length (has c.args.held.now) (values_of c.args.nodes.now) c.loop-index.index (values_of c.loop-index.nodes) (values_of c.fill_node.new.nodes) c.in-Err.fault
    c.loop-index-test.true (c.loop-index.invariant.0 honest)
    (subst (λ tree. FillsAt tree c.args.length (has c.args.held.now) c.loop-index.index (values_of c.loop-index.nodes) (values_of c.fill_node.new.nodes) (Err c.in-Err.fault)) same
    (c.in-Err.ensures.fills (honest_still old mid _ so_far honest)))

pub returns-in-Err-clause-consults : goal.returns-in-Err-clause-consults
returns-in-Err-clause-consults g c = consults_then _ (g.D.Disk.disk c.loop-index.disk) _ _ _ c.loop-index.invariant.2 c.in-Err.ensures.consults
