use Rattle.std.proofs.Common.{ℕ, List, sym, ap, ◌∙◌}
use Rattle.std.specs.Option.{option_map}
use Rattle.flat_tree.specs.declared.limits.TheConstants.{MAX_CORE_BYTES}
use Rattle.merkle_nodes.specs.declared.node.Node.{Node}
use Rattle.merkle_nodes.specs.Roots.{twig_of}
use Rattle.node_set.specs.Nodes.{with_nodes}
use Rattle.core_disk.specs.InHand.{last_of}
use Rattle.core_disk.proofs.BytesBefore.{size_most}
use Rattle.core_disk.proofs.RecordLemmas.{last_value}
use Rattle.core_disk.proofs.admitting.size_after.Goals as goal

pub returns-in-Ok-clause-size : goal.returns-in-Ok-clause-size
returns-in-Ok-clause-size g c stands depth offset is =
    let fresh = c.args.fresh.now in
    let node = (g.V.View.view c.args.view.now).content.node in
    let last = c.last_of.ensures ∙ ap (λ (ns : List Node). last_of ns c.args.index c.in-Ok.found) c.of.ensures
    ∙ ap (λ (k : ℕ). last_of fresh k c.in-Ok.found) (sym is) in
    c.size_of.ensures.size (with_nodes node fresh) depth offset
    (ap (option_map twig_of) last ∙ last_value fresh depth offset node c.in-Ok.found (c.in-Ok.ensures.gives.content stands depth offset is))

pub returns-in-Ok-clause-most : goal.returns-in-Ok-clause-most
returns-in-Ok-clause-most g c =
    let last = c.last_of.ensures ∙ ap (λ (ns : List Node). last_of ns c.args.index c.in-Ok.found) c.of.ensures in
    c.size_of.ensures.most MAX_CORE_BYTES
    (size_most c.args.fresh.now c.args.index c.in-Ok.found c.last_of.result last c.requires.sizes c.in-Ok.ensures.gives.size)
