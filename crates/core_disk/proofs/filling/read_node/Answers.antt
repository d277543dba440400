use Rattle.std.proofs.Common.{refl, arith, ◌*◌}
use Rattle.disk_trait.specs.declared.disk.Area.TheVariants.{Tree}
use Rattle.core_disk.proofs.FillLemmas.{node_read}
use Rattle.core_disk.proofs.filling.read_node.Goals as goal

pub returns-in-Ok-clause-node : goal.returns-in-Ok-clause-node
returns-in-Ok-clause-node g c honest =
    node_read ((g.D.Disk.disk c.args.disk.now).reads Tree) c.args.index (c.args.index * 40) c.in-Ok.field-0 _ c.read.new.into c.twig_from.result c.numbered.result c.checked.result
    (omega arith) refl (c.in-Ok.ensures.reads honest).ok c.twig_from.ensures c.numbered.ensures c.checked.ensures
