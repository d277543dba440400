use Rattle.std.proofs.Common.{refl, sym, ap, ◌∙◌}
use Rattle.core_disk.specs.InHand.{InHand, opened_of}
use Rattle.core_disk.proofs.CommitFits.{fit_passed, fit_passes}
use Rattle.core_disk.proofs.store.Store.checked.Goals as goal

pub returns-then-keeps_root : goal.returns-then-keeps_root
returns-then-keeps_root g c =
    let own = sym (ap (λ (hand : InHand). hand.roots) (c.behind-self.view_is ∙ c.known.ensures.same)) in (
      fit_passed c.args.entry.now (opened_of c.args.self.now.hand) c.args.roots _ c.requires.next own _ c.if-keeps_root.ensures refl,
      c.requires.next,
      c.requires.places,
    )

pub returns : goal.returns
returns g c =
    let own = sym (ap (λ (hand : InHand). hand.roots) (c.behind-self.view_is ∙ c.known.ensures.same)) in
    rw (c.unfit.ensures)
    (λ fit.
    let passes = fit_passes c.args.entry.now (opened_of c.args.self.now.hand) c.args.roots _ c.requires.next own _ c.if-keeps_root.ensures fit in
    cc)
