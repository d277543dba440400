use Rattle.std.proofs.Common.{List, sym, subst}
use Rattle.flat_tree.specs.Roots.{full_roots_of}
use Rattle.merkle_nodes.specs.declared.node.Node.{Node}
use Rattle.merkle_nodes.specs.Nodes.{AreNodes}
use Rattle.log_change.proofs.Named.{numbers_are}
use Rattle.proof_judge.specs.Laying.{joined_with, AreLaid}
use Rattle.proof_judge.proofs.LaidOver.{any_value, any_roots}
use Rattle.proof_judge.proofs.LaidContent.{lays}
use Rattle.proof_judge.proofs.upgrade.lay_upgrade.Goals as goal

pub push_in_order-requires-clause-of : goal.push_in_order-requires-clause-of
push_in_order-requires-clause-of g c =
    let m = (g.V.View.view c.args.view.now).source.content in
    let start = c.args.upgrade.now.start in (
      any_value m,
      subst (AreNodes (any_value m) (full_roots_of start)) (sym c.roots_before-roots.ensures.roots) (any_roots c.args.fork start m c.requires.due.start),
    )

pub kept_before-requires-clause-shape : goal.kept_before-requires-clause-shape
kept_before-requires-clause-shape g c =
    let m = (g.V.View.view c.args.view.now).source.content in
    let u = c.args.upgrade.now in
    let before = subst (AreNodes (any_value m) (full_roots_of u.start)) (sym c.roots_before-roots.ensures.roots) (any_roots c.args.fork u.start m c.requires.due.start) in
    numbers_are (joined_with u (any_value m)) (full_roots_of u.length) c.push_in_order.new.roots (c.push_in_order.ensures.roots (any_value m) before)

pub returns-clause-lays : goal.returns-clause-lays
returns-clause-lays g c =
    let s = (g.V.View.view c.args.view.now).source in
    let u = c.args.upgrade.now in
    let before = subst (AreNodes (any_value s.content) (full_roots_of u.start)) (sym c.roots_before-roots.ensures.roots) (any_roots c.args.fork u.start s.content c.requires.due.start) in
    let laid = subst (λ (ns : List Node). AreLaid ns u c.push_in_order.new.nodes.items) c.roots_before-roots.ensures.roots c.push_in_order.ensures.nodes in
    lays s c.args.fork u c.push_in_order.new.roots c.in-Ok.kept c.push_in_order.new.nodes.items c.requires.due c.roots_before-roots.ensures.usable.below laid
    (c.push_in_order.ensures.roots (any_value s.content) before) c.push_in_order.ensures.roots_fit c.push_in_order.ensures.nodes_fit c.in-Ok.ensures.kept
