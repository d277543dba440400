use Rattle.std.proofs.Common.{◌≤◌, sym, subst, ◌∙◌}
use Rattle.std.specs.List.{AllByRecursion}
use Rattle.flat_tree.specs.declared.limits.TheConstants.{MAX_CORE_BYTES}
use Rattle.merkle_nodes.specs.declared.node.Node.{Node}
use Rattle.node_set.proofs.OffsetSums.{roots_most}
use Rattle.node_set.proofs.path.byte_offset.Goals as goal

pub sum_of_sizes-before-requires : goal.sum_of_sizes-before-requires
sum_of_sizes-before-requires g c =
    let is_roots = c.as_slice.ensures.items ∙ c.roots.ensures in
    let sizes = subst (AllByRecursion (λ (node : Node). node.size ≤ MAX_CORE_BYTES)) (sym is_roots) c.head-head.ensures.usable.sizes in
    roots_most _ _ sizes c.as_slice.ensures.room
