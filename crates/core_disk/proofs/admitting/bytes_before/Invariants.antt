use Rattle.std.proofs.Common.{◌≡◌, IsTrue, ◌*◌, ◌≤◌}
use Rattle.flat_tree.specs.declared.limits.TheConstants.{MAX_CORE_BYTES}
use Rattle.node_set.specs.Nodes.{with_nodes}
use Rattle.node_set.specs.Walks.{KeepsView}
use Rattle.core_disk.proofs.BytesBefore.{first_bytes}
use Rattle.core_disk.proofs.admitting.bytes_before.Given as goal

-- the view stays, and the bytes so far are those of the first roots
abbrev pub invariant-loop-place : goal.invariant-loop-place
invariant-loop-place g l =
    let v = g.V.View.view l.fn.view in
    record {
      keeps : KeepsView v (g.V.View.view l.view);
      sum : IsTrue v.stands → l.bytes ≡ first_bytes (with_nodes v.content.node l.fresh) l.fn.index l.place;
      most : l.bytes ≤ l.place * MAX_CORE_BYTES;
    }
