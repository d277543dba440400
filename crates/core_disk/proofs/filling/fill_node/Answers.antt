use Rattle.std.proofs.Common.{rules, ◌∙◌, sym}
use Rattle.disk_trait.specs.declared.disk.Area.TheVariants.{Tree}
use Rattle.bit_field.specs.Places.{has}
use Rattle.node_set.specs.Nodes.{values_of}
use Rattle.core_disk.proofs.FillLemmas.{none_there, lacks_there, put_keeps_all, fills_put}
use Rattle.core_disk.proofs.filling.fill_node.Goals as goal

pub returns-in-Ok-clause-kept : goal.returns-in-Ok-clause-kept
returns-in-Ok-clause-kept g c =
    put_keeps_all (values_of c.args.nodes.now) (values_of c.put_node.new.nodes) c.in-Ok.node c.put_node.result c.put_node.ensures.ok c.put_node.ensures.err
    (λ depth offset here. none_there c.args.index (values_of c.args.nodes.now) c.get.result (search rules) c.get.ensures.value depth offset (here ∙ c.in-Ok.ensures.numbered))

pub returns-in-Ok-clause-fills : goal.returns-in-Ok-clause-fills
returns-in-Ok-clause-fills g c honest =
    fills_put ((g.D.Disk.disk c.args.disk.now).reads Tree) c.args.length (has c.args.held.now) c.args.index (values_of c.args.nodes.now) (values_of c.put_node.new.nodes) c.in-Ok.node c.put_node.result
    (lacks_there c.args.length (has c.args.held.now) c.args.index (values_of c.args.nodes.now)
    (λ depth offset here. sym (c.is_stored.ensures depth offset here) ∙ (search rules))
    (none_there c.args.index (values_of c.args.nodes.now) c.get.result (search rules) c.get.ensures.value))
    (c.in-Ok.ensures.node honest) c.put_node.ensures.ok c.put_node.ensures.memory
