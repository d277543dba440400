use Rattle.std.proofs.Common.{◌≡◌, List, subst, sym, rules}
use Rattle.merkle_nodes.specs.declared.node.Node.{Node}
use Rattle.merkle_nodes.specs.Roots.{HasShape}
use Rattle.node_set.specs.Contents.{roots}
use Rattle.node_set.proofs.SoundLemmas.{roots_shape}
use Rattle.snap_reads.proofs.head.snapshot.Goals as goal

pub returns-clause-shape : goal.returns-clause-shape
returns-clause-shape g c =
    let m = (g.V.View.view c.args.view.now).source.content in
    let copied : c.extend.new.self ≡ roots m = search rules in
    subst (HasShape c.extend.new.self) (sym c.head-head.ensures.length)
    (subst (λ (nodes : List Node). HasShape nodes m.length) (sym copied) (roots_shape m.node m.length))
