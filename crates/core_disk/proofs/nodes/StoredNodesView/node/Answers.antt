use Rattle.std.proofs.Common.{◌≡◌, ◌*◌, true, sym, subst, ◌∙◌}
use Rattle.std.specs.Prelude.{IsTrue}
use Rattle.core_disk.specs.declared.layout.TheConstants.{NODE_BYTES}
use Rattle.core_disk.specs.InHand.{InHand, IsKept}
use Rattle.core_disk.specs.Stored.{is_standing, content_of}
use Rattle.core_disk.specs.Fitting.{is_unfit}
use Rattle.core_disk.proofs.StoreLemmas.{bad_told, node_there, node_unfit}
use Rattle.core_disk.proofs.nodes.StoredNodesView.node.Goals as goal

pub returns-in-None-clause-cause : goal.returns-in-None-clause-cause
returns-in-None-clause-cause g c =
    let now = c.args.self.now in
    let store = now.store.now in
    let disk = g.D.Disk.disk store.disk in
    let seen = c.known-known.result.now in
    let same = c.known-known.ensures.same in
    let kept = subst IsKept (sym same) c.known-known.ensures.kept in
    let never = node_there disk seen c.args.index kept (λ depth offset is. sym (c.stores.ensures.closed depth offset is) ∙ c.if-not-stores.false)
    (c.fit_node.ensures.none c.in-None.is) in
    let unfit = node_unfit disk seen c.args.index (λ depth offset is. sym (c.stores.ensures.closed depth offset is) ∙ c.if-not-stores.false)
    (c.fit_node.ensures.none c.in-None.is) in
    rw (c.tell.ensures.told, c.tell.ensures.same, c.bad_record.ensures)
    (bad_told disk store.hand now.answered now.last now.faults (NODE_BYTES * c.args.index) c.tell.ensures.more
    (subst (λ (hand : InHand). IsTrue (is_standing disk hand) → ⊥) same never)
    (subst (λ (hand : InHand). is_unfit (content_of disk hand) (NODE_BYTES * c.args.index) ≡ true) same unfit))
