use Rattle.std.proofs.Common.{sym, ap, ◌∙◌}
use Rattle.core_disk.specs.InHand.{InHand, opened_of}
use Rattle.core_disk.specs.Stored.{blocks_area}
use Rattle.core_disk.proofs.LaidLemmas.{roots_in}
use Rattle.core_disk.proofs.store.StoreView.roots.Goals as goal

pub returns : goal.returns
returns g c =
    let now = c.args.self.now in
    ap (λ (hand : InHand). hand.roots) (c.behind-self.view_is ∙ c.known.ensures.same)
    ∙ sym (roots_in (blocks_area (g.D.Disk.disk now.disk)) (opened_of now.hand) c.known.ensures.rooted)
