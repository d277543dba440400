use Rattle.std.proofs.Common.{sym, ap, subst, ◌∙◌}
use Rattle.node_set.specs.Contents.{bytes_under}
use Rattle.core_state.specs.States.{info_of}
use Rattle.core_disk.specs.Hands.{hand_of}
use Rattle.core_disk.specs.InHand.{InHand, opened_of}
use Rattle.core_disk.specs.Laid.{IsRooted}
use Rattle.core_disk.specs.Stored.{content_of}
use Rattle.core_disk.specs.Cored.{Cored}
use Rattle.core_disk.proofs.ReadActs.{info_in}
use Rattle.core_disk.proofs.disk_core.DiskCore.in_short.Goals as goal

pub returns : goal.returns
returns g c =
    let seen = hand_of c.state.inside in
    let inside = c.self.inside in
    let disk = g.D.Disk.disk inside.store.disk in
    let same = c.state.view_is ∙ c.known-state.ensures.same in
    let rooted = subst (λ (hand : InHand). IsRooted (opened_of hand)) (sym same) c.known-state.ensures.rooted in
    info_in disk seen c.state.invariant rooted c.bytes.result c.count.result c.root_hash.result
    (c.bytes.ensures ∙ ap (λ (hand : InHand). bytes_under hand.roots) (sym c.state.view_is)) c.count.ensures c.root_hash.ensures
    ∙ ap (λ (hand : InHand). info_of (content_of disk hand)) same
    ∙ ap (λ (core : Cored _ _). info_of (content_of (g.D.Disk.disk core.store.disk) core.store.hand)) c.self.view_is
