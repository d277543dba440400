use Rattle.std.proofs.Common.{List, ap, sym, subst, ◌∙◌}
use Rattle.disk_trait.specs.declared.disk.Area.TheVariants.{Tree}
use Rattle.bit_field.specs.Places.{has}
use Rattle.merkle_nodes.specs.declared.node.Node.{Node}
use Rattle.merkle_nodes.specs.Joined.{Values}
use Rattle.node_set.specs.Nodes.{values_of, with_nodes}
use Rattle.core_disk.specs.InHand.{InHand, opened_of}
use Rattle.core_disk.specs.Hands.{hand_of}
use Rattle.core_disk.specs.Filling.{AreSmall, KeepsValues, Fills, FillsAll}
use Rattle.core_disk.proofs.FillLemmas.{on_any, roots_there, fills_as}
use Rattle.core_disk.proofs.replay.DiskState.fill.Goals as goal

pub returns-clause-rooted : goal.returns-clause-rooted
returns-clause-rooted g c =
    let hand = c.self.inside in
    let put = c.in-Ok.ensures ∙ ap (λ (ns : List Node). with_nodes (values_of hand.nodes) ns) c.as_slice.ensures.items in
    on_any c.fill_nodes.result
    (roots_there hand.roots hand.head.length (values_of hand.nodes) (values_of c.fill_nodes.new.nodes) c.self.invariant.shape
    (subst (λ (v : Values). KeepsValues v (values_of c.fill_nodes.new.nodes)) put c.fill_nodes.ensures.kept))

pub returns-clause-fills : goal.returns-clause-fills
returns-clause-fills g c honest small =
    let hand = c.self.inside in
    let tree = (g.D.Disk.disk c.args.disk.now).reads Tree in
    let now = c.fill_nodes.new.nodes in
    let put = c.in-Ok.ensures ∙ ap (λ (ns : List Node). with_nodes (values_of hand.nodes) ns) c.as_slice.ensures.items in
    subst (λ (h : InHand). Fills tree (opened_of h) (opened_of (record { head = hand.head; roots = hand.roots; held = hand.held; nodes = now })) c.fill_nodes.result) c.self.view_is
    (fills_as (hand_of hand) c.self.invariant tree (subst (λ (h : InHand). AreSmall (values_of h.nodes)) (sym c.self.view_is) small) now c.fill_nodes.result
    (subst (λ (v : Values). FillsAll tree hand.head.length (has hand.held) v (values_of now) c.fill_nodes.result) put (c.fill_nodes.ensures.fills honest)))
