use Rattle.std.proofs.Common.{IsTrue}
use Rattle.disk_trait.specs.declared.disk.Area.TheVariants.{Tree}
use Rattle.bit_field.specs.Places.{has}
use Rattle.node_set.specs.Nodes.{values_of}
use Rattle.core_disk.specs.Copying.{HasConsulted}
use Rattle.core_disk.specs.Filling.{KeepsValues, HasFilled}
use Rattle.core_disk.proofs.filling.fill_nodes.Given as goal

-- the nodes of lower numbers are there
abbrev pub invariant-loop-index : goal.invariant-loop-index
invariant-loop-index g l =
    (IsTrue (g.D.Disk.disk l.fn.disk).honest → HasFilled ((g.D.Disk.disk l.fn.disk).reads Tree) l.length (has l.held) l.index (values_of l.fn.nodes) (values_of l.nodes))
    × KeepsValues (values_of l.fn.nodes) (values_of l.nodes)
    × HasConsulted (g.D.Disk.disk l.fn.disk) (g.D.Disk.disk l.disk)
