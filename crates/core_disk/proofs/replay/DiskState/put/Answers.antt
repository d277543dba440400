use Rattle.std.proofs.Common.{Some, refl, sym, subst}
use Rattle.core_disk.specs.InHand.{InHand, opened_of, NextRoots}
use Rattle.core_disk.specs.Hands.{hand_of}
use Rattle.core_disk.proofs.ApplyLemmas.{put_kept}
use Rattle.core_disk.proofs.replay.DiskState.put.Goals as goal

pub invariant_of-self : goal.invariant_of-self
invariant_of-self c =
    let next = subst (λ (h : InHand). NextRoots (opened_of h) c.args.entry.now (Some c.args.roots)) (sym c.self.view_is) c.requires.next in
    put_kept (hand_of c.self.inside) _ c.args.entry.now c.self.invariant c.requires.fits next refl c.hold.ensures.places c.hold.ensures.held
