use Rattle.std.proofs.Common.{None, sym, refl, ◌∙◌}
use Rattle.commit_book.specs.declared.commit.Commit.TheVariants.{Truncate as TruncateCommit}
use Rattle.core_forks.specs.Refusals.{truncate_refusal}
use Rattle.core_state.specs.Events.Event.{Truncate}
use Rattle.core_disk.specs.Stored.{content_of}
use Rattle.core_disk.proofs.ChangePlansMade.{refuses, signed_few, truncate_plan}
use Rattle.core_disk.proofs.ChangeActs.{broken_does, refused_does, given_does}
use Rattle.core_disk.proofs.disk_core.DiskCore.truncate.Goals as goal

pub returns-in-Some-clause-acts : goal.returns-in-Some-clause-acts
returns-in-Some-clause-acts g c =
    let now = c.args.self.now in
    let does = broken_does g.D.Disk.disk g.A.Verifier.accepts (Truncate c.args.to c.args.fork) now now refl c.failed_at.ensures.kept
    (λ old new fault why. why) c.in-Some.count (sym c.failed_at.ensures.broken ∙ c.in-Some.is) in
    does.acts

pub returns-in-Err : goal.returns-in-Err
returns-in-Err g c =
    let nodes = c.nodes-nodes.result in
    let store = nodes.store.now in
    let disk = g.D.Disk.disk store.disk in
    let does = refused_does g.D.Disk.disk g.A.Verifier.accepts (Truncate c.args.to c.args.fork) c.args.self.now _ c.self.view_is
    c.failed_at.ensures.kept _ c.self.view_is store c.nodes-nodes.ensures.store (sym c.failed_at.ensures.broken ∙ c.in_default.is) (λ old new fault why. why)
    c.in-Err.fault c.own_fault.result c.own_fault.ensures.store c.own_fault.ensures.other
    (λ stands other. (
      refuses (g.A.Verifier.accepts c.self.inside.auth) disk store.hand nodes.answered nodes.last nodes.faults _
          (truncate_refusal (content_of disk store.hand) c.args.to c.args.fork) c.in-Err.fault c.in-Err.ensures.plan stands other,
      refl,
    )) in
    record { acts = does.acts; disk = does.changes }

pub returns : goal.returns
returns g c =
    let nodes = c.nodes-nodes.result in
    let store = nodes.store.now in
    let disk = g.D.Disk.disk store.disk in
    let accepts = g.A.Verifier.accepts c.self.inside.auth in
    let plan = c.in-Ok.ensures.plan in
    let few = signed_few accepts disk store.hand nodes.answered nodes.last nodes.faults _ _ _ _ c.in-Ok.head plan.1 in
    let change = c.commit_change-done in
    let made = change.ensures in
    let told = c.told.ensures in
    let does = given_does g.D.Disk.disk g.A.Verifier.accepts (Truncate c.args.to c.args.fork) _ c.args.self.now c.self.view_is
    c.failed_at.ensures.kept c.failed_at.ensures.rooted (sym c.failed_at.ensures.broken ∙ c.in_default.is) (λ old new fault why. why) g.met.D.Disk.may_stay
    (record { commit = TruncateCommit c.args.to c.args.fork; head = c.in-Ok.head; records = c.of.result }) few None store c.nodes-nodes.ensures.store
    (truncate_plan accepts disk store.hand nodes.answered nodes.last nodes.faults c.args.to c.args.fork
    c.plan_truncate.new.nodes.items c.in-Ok.head plan.0 plan.1 c.of.result (c.of.ensures ∙ c.as_slice.ensures.value))
    change.result change.new.store change.new.file
    (record { takes = made.takes; writes = made.writes; behind = made.behind; torn = made.torn; laid_is = made.laid })
    (record { err = made.err; why = made.why; quiet = made.quiet; calls = made.calls })
    c.told.new.self c.told.result (record { store_is = told.store; place_is = told.place; auth_is = told.auth; kept = told.kept; tells = told.tells }) in
    record { acts = does.acts; disk = does.changes }
