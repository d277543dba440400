use Rattle.std.proofs.Common.{List, ap, subst, length, arith}
use Rattle.std.specs.List.{AllByRecursion}
use Rattle.merkle_nodes.specs.declared.node.Node.{Node}
use Rattle.merkle_batch.specs.Batch.{SizeFits}
use Rattle.core_disk.specs.Planning.{AreInOrder, IsHeadOver}
use Rattle.core_disk.proofs.AppendPlan.{nodes_few, append_planned}
use Rattle.core_disk.proofs.appending.plan_append.Goals as goal

pub put_in_order-requires : goal.put_in_order-requires
put_in_order-requires g c =
    let m = (g.V.View.view c.args.view.now).content in
    let few = nodes_few m c.args.blocks.now c.make_batch.new.batch c.in-Ok.ensures.batch.1 in
    record { room = omega (arith, few, ap length c.nodes.ensures.nodes, c.requires.room) }

pub returns-clause-plan : goal.returns-clause-plan
returns-clause-plan g c =
    let v = g.V.View.view c.args.view.now in
    let accepts = g.A.Verifier.accepts c.args.auth.now in
    let batch = c.make_batch.new.batch in
    let records = c.put_in_order.new.to.items in
    let fork = c.head-head.result.fork in
    let blocks = c.length.result in
    let order = subst (λ (ns : List Node). AreInOrder ns records) c.nodes.ensures.nodes c.put_in_order.ensures.order in
    let sizes = subst (AllByRecursion SizeFits) c.nodes.ensures.nodes c.nodes.ensures.sizes in
    let over = subst (λ (ns : List Node). IsHeadOver accepts ns fork blocks c.head_over.result) c.roots.ensures.roots c.head_over.ensures in (
      c.in-Ok.ensures.batch.0,
      append_planned accepts v c.args.blocks.now batch records fork blocks c.head_over.result c.requires.some c.head-head.ensures.usable c.in-Ok.ensures.batch.0
          c.in-Ok.ensures.batch.1 order sizes over c.head-head.ensures.fork c.length.ensures.length,
    )
