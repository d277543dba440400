use Rattle.std.proofs.Common.{refl}
use Rattle.node_set.proofs.PageLemmas.{inserted}
use Rattle.node_set.proofs.nodes.Nodes.insert.Goals as goal

-- the node is put at its place
pub returns-clause-values : goal.returns-clause-values
returns-clause-values c =
    inserted c.self.inside.pages.items c.args.self.now _ c.args.node.now _ _ _ c.self.view_is c.requires.place c.index_mut.ensures.value
    c.twig.ensures c.put.ensures refl
