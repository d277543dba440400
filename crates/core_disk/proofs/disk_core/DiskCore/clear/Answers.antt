use Rattle.std.proofs.Common.{None, sym, ap, refl, ◌∙◌}
use Rattle.commit_book.specs.declared.commit.Commit.TheVariants.{Clear as ClearCommit}
use Rattle.core_forks.specs.Refusals.{clear_refusal}
use Rattle.core_state.specs.Events.Event.{Clear}
use Rattle.core_disk.specs.InHand.{InHand}
use Rattle.core_disk.specs.Stored.{Stored, content_of}
use Rattle.core_disk.proofs.ChangePlansMade.{refuses, clear_rests, clear_plan}
use Rattle.core_disk.proofs.ChangeActs.{broken_does, rests_does, refused_does, given_does}
use Rattle.core_disk.proofs.disk_core.DiskCore.clear.Goals as goal

pub returns-in-Some-clause-acts : goal.returns-in-Some-clause-acts
returns-in-Some-clause-acts g c =
    let now = c.args.self.now in
    let does = broken_does g.D.Disk.disk g.A.Verifier.accepts (Clear c.args.from c.args.to) now now refl c.failed_at.ensures.kept
    (λ old new fault why. why) c.in-Some.count (sym c.failed_at.ensures.broken ∙ c.in-Some.is) in
    does.acts

pub returns-in-Ok-false : goal.returns-in-Ok-false
returns-in-Ok-false g c =
    let nodes = c.nodes-nodes.result in
    let store = nodes.store.now in
    let now = c.args.self.now in
    let disk = g.D.Disk.disk store.disk in
    let plan = rw c.in-Ok-false.field-0-test at c.in-Ok-false.ensures.plan in
    let does = rests_does g.D.Disk.disk g.A.Verifier.accepts (Clear c.args.from c.args.to) now now refl c.failed_at.ensures.kept _ c.self.view_is
    store c.nodes-nodes.ensures.store (sym c.failed_at.ensures.broken ∙ c.in_default.is) c.receipt.result c.receipt.ensures
    (λ stands. clear_rests (g.A.Verifier.accepts c.self.inside.auth) disk store.hand nodes.answered nodes.last nodes.faults
    c.args.from c.args.to plan.0 plan.1) in
    record { acts = does.acts; disk = does.changes }

pub returns-in-Err : goal.returns-in-Err
returns-in-Err g c =
    let nodes = c.nodes-nodes.result in
    let store = nodes.store.now in
    let now = c.args.self.now in
    let disk = g.D.Disk.disk store.disk in
    let does = refused_does g.D.Disk.disk g.A.Verifier.accepts (Clear c.args.from c.args.to) now now refl c.failed_at.ensures.kept _ c.self.view_is
    store c.nodes-nodes.ensures.store (sym c.failed_at.ensures.broken ∙ c.in_default.is) (λ old new fault why. why)
    c.in-Err.fault c.own_fault.result c.own_fault.ensures.store c.own_fault.ensures.other
    (λ stands other. (
      refuses (g.A.Verifier.accepts c.self.inside.auth) disk store.hand nodes.answered nodes.last nodes.faults _
          (clear_refusal (content_of disk store.hand) c.args.from c.args.to) c.in-Err.fault c.in-Err.ensures.plan stands other,
      refl,
    )) in
    record { acts = does.acts; disk = does.changes }

pub returns : goal.returns
returns g c =
    let nodes = c.nodes-nodes.result in
    let store = nodes.store.now in
    let disk = g.D.Disk.disk store.disk in
    let accepts = g.A.Verifier.accepts c.self.inside.auth in
    let plan = rw c.in-Ok-true.field-0-test at c.in-Ok-true.ensures.plan in
    let head_is = c.head.ensures.head
    ∙ ap (λ (hand : InHand). hand.head) (c.known.ensures.same ∙ ap (λ (s : Stored _). s.hand) (sym c.nodes-nodes.ensures.store)) in
    let change = c.commit_change-done in
    let made = change.ensures in
    let told = c.told.ensures in
    let does = given_does g.D.Disk.disk g.A.Verifier.accepts (Clear c.args.from c.args.to) _ c.args.self.now c.self.view_is
    c.failed_at.ensures.kept c.failed_at.ensures.rooted (sym c.failed_at.ensures.broken ∙ c.in_default.is) (λ old new fault why. why) g.met.D.Disk.may_stay
    (record { commit = ClearCommit c.args.from c.args.to; head = c.head.result; records = c.of.result })
    (rw c.head.ensures.head c.head.ensures.kept.blocks) None store c.nodes-nodes.ensures.store
    (clear_plan accepts disk store.hand nodes.answered nodes.last nodes.faults c.args.from c.args.to plan.0 plan.1
    c.head.result c.of.result head_is c.of.ensures)
    change.result change.new.store change.new.file
    (record { takes = made.takes; writes = made.writes; behind = made.behind; torn = made.torn; laid_is = made.laid })
    (record { err = made.err; why = made.why; quiet = made.quiet; calls = made.calls })
    c.told.new.self c.told.result (record { store_is = told.store; place_is = told.place; auth_is = told.auth; kept = told.kept; tells = told.tells }) in
    record { acts = does.acts; disk = does.changes }
