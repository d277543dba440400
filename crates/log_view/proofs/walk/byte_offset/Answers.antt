use Rattle.std.proofs.Common.{◌≤◌, ◌+◌, rules, sym, subst, ◌∙◌}
use Rattle.std.specs.List.{AllByRecursion}
use Rattle.flat_tree.specs.declared.limits.TheConstants.{MAX_CORE_BYTES}
use Rattle.merkle_nodes.specs.declared.node.Node.{Node}
use Rattle.node_set.proofs.OffsetSums.{roots_most}
use Rattle.log_view.specs.Walks.{BeginsAt}
use Rattle.log_view.proofs.LeftSums.{begins_shown}
use Rattle.log_view.proofs.walk.byte_offset.Goals as goal

pub sum_of_sizes-before-requires : goal.sum_of_sizes-before-requires
sum_of_sizes-before-requires g c =
    let is_roots = c.as_slice.ensures.items ∙ c.roots.ensures in
    let sizes = subst (AllByRecursion (λ (node : Node). node.size ≤ MAX_CORE_BYTES)) (sym is_roots) c.head.ensures.usable.sizes in
    roots_most _ _ sizes c.as_slice.ensures.room

pub returns-in-Ok-clause-shown : goal.returns-in-Ok-clause-shown
returns-in-Ok-clause-shown g c =
    let s = (g.V.View.view c.args.view.now).source in
    let begins : BeginsAt s c.args.index (c.sum_of_sizes-before.result + c.in-Ok.left) = search rules in
    λ shows. begins_shown s shows c.args.index _ begins
