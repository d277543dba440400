use Rattle.std.proofs.Common.{◌≤◌, ◌*◌, List, length, sym, subst, ◌∙◌, arith}
use Rattle.std.specs.List.{AllByRecursion}
use Rattle.std.proofs.lemmas.List.{take_all}
use Rattle.flat_tree.specs.declared.limits.TheConstants.{MAX_CORE_BYTES, MAX_ROOTS}
use Rattle.merkle_nodes.specs.declared.node.Node.{Node}
use Rattle.node_set.specs.Contents.{bytes_under}
use Rattle.node_set.proofs.OffsetSums.{roots_most}
use Rattle.log_core.proofs.log_core.LogCoreCore.info.Goals as goal

pub bytes_under-requires : goal.bytes_under-requires
bytes_under-requires g c =
    let nodes = c.as_slice.result.now in
    let sizes = subst (AllByRecursion (λ (node : Node). node.size ≤ MAX_CORE_BYTES)) (sym (c.as_slice.ensures.items ∙ c.roots.ensures)) c.head-head.ensures.usable.sizes in
    record {
      few = subst (λ (ns : List Node). bytes_under ns ≤ MAX_ROOTS * MAX_CORE_BYTES) (take_all (length nodes) nodes (omega arith))
          (roots_most nodes (length nodes) sizes c.as_slice.ensures.room);
    }
