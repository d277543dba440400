use Rattle.std.proofs.Common.{sym, ap, ◌∙◌}
use Rattle.core_disk.specs.InHand.{InHand, opened_of}
use Rattle.core_disk.specs.Stored.{blocks_area}
use Rattle.core_disk.proofs.LaidLemmas.{roots_in}
use Rattle.core_disk.proofs.nodes.StoredNodesView.roots.Goals as goal

pub returns : goal.returns
returns g c =
    let store = c.args.self.now.store.now in
    ap (λ (hand : InHand). hand.roots) (c.behind-self.view_is ∙ c.known.ensures.same)
    ∙ sym (roots_in (blocks_area (g.D.Disk.disk store.disk)) (opened_of store.hand) c.known.ensures.rooted)
