use Rattle.std.proofs.Common.{List, sym, subst, arith}
use Rattle.merkle_nodes.specs.declared.node.Node.{Node}
use Rattle.merkle_nodes.specs.Roots.{HasShape}
use Rattle.node_set.specs.Contents.{roots}
use Rattle.node_set.proofs.SoundLemmas.{roots_shape}
use Rattle.core_disk.proofs.AppendPlan.{batch_made}
use Rattle.core_disk.proofs.appending.make_batch.Goals as goal

pub start-requires-clause-shape : goal.start-requires-clause-shape
start-requires-clause-shape g c =
    let m = (g.V.View.view c.args.view.now).content in
    subst (λ (ns : List Node). HasShape ns c.head-head.result.length) (sym c.roots.ensures)
    (subst (HasShape (roots m)) (sym c.head-head.ensures.length) (roots_shape m.node m.length))

pub returns-in-Ok-clause-batch : goal.returns-in-Ok-clause-batch
returns-in-Ok-clause-batch g c =
    let m = (g.V.View.view c.args.view.now).content in
    batch_made m c.args.blocks.now c.start.new.self c.args.batch.now.room c.head-head.result.length c.roots.result.now c.start.ensures.empty
    c.head-head.ensures.length
    c.roots.ensures c.push_all.new.batch (omega
    (arith, c.head-head.ensures.usable)) c.in-Ok.ensures.limit c.in-Ok.ensures.base c.in-Ok.ensures.held c.start.ensures.held
