use Rattle.std.proofs.Common.{sym, ap, subst, ◌∙◌}
use Rattle.core_state.specs.States.{receipt_of}
use Rattle.core_disk.specs.Hands.{hand_of}
use Rattle.core_disk.specs.InHand.{InHand, opened_of}
use Rattle.core_disk.specs.Laid.{IsRooted}
use Rattle.core_disk.specs.Stored.{content_of}
use Rattle.core_disk.specs.Cored.{Cored}
use Rattle.core_disk.proofs.ReadActs.{receipt_in}
use Rattle.core_disk.proofs.disk_core.DiskCore.receipt.Goals as goal

pub returns : goal.returns
returns g c =
    let inside = c.self.inside in
    let disk = g.D.Disk.disk inside.store.disk in
    let same = c.state.view_is ∙ c.known-state.ensures.same in
    let rooted = subst (λ (hand : InHand). IsRooted (opened_of hand)) (sym same) c.known-state.ensures.rooted in
    receipt_in disk (hand_of c.state.inside) c.state.invariant rooted c.args.commit c.root_hash.result c.root_hash.ensures
    ∙ ap (λ (hand : InHand). receipt_of (content_of disk hand) c.args.commit) same
    ∙ ap (λ (core : Cored _ _). receipt_of (content_of (g.D.Disk.disk core.store.disk) core.store.hand) c.args.commit) c.self.view_is
