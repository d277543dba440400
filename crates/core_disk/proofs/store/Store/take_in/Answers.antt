use Rattle.std.proofs.Common.{◌≡◌, true, sym, ap, subst}
use Rattle.core_disk.specs.Opened.{entry_after}
use Rattle.core_disk.specs.Following.{follows}
use Rattle.core_disk.specs.InHand.{InHand, opened_of}
use Rattle.core_disk.specs.Stored.{Stored}
use Rattle.core_disk.proofs.LaidLemmas.{agrees_rooted, rooted_after}
use Rattle.core_disk.proofs.store.Store.take_in.Goals as goal

pub invariant_of-self : goal.invariant_of-self
invariant_of-self g c =
    let e = c.args.entry.now in
    let o = opened_of c.self.inside.state in
    let follow = subst (λ (hand : InHand). follows (opened_of hand) e ≡ true) (sym (ap (λ (store : Stored _). store.hand) c.self.view_is)) c.requires.next.0 in
    agrees_rooted (opened_of c.put.new.self) (entry_after o e) c.put.ensures c.requires.fits.head.few (rooted_after o e follow c.self.invariant)
