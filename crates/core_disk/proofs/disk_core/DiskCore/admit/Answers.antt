use Rattle.std.proofs.Common.{◌≡◌, ℕ, ◌+◌, List, sym, ap, subst, refl, ◌∙◌}
use Rattle.core_state.specs.Events.Event.{Admit}
use Rattle.oplog_file.specs.Storing.{Calls}
use Rattle.core_disk.specs.Bringing.{part_of}
use Rattle.core_disk.specs.Plans.{bytes_in, calls_for, brought_by}
use Rattle.core_disk.specs.Stored.{Stored, content_of}
use Rattle.core_disk.proofs.ChangePlansMade.{admit_refused, admit_rests, admit_plan}
use Rattle.core_disk.proofs.ChangeActs.{broken_does, rests_does, refused_does, given_does}
use Rattle.core_disk.proofs.disk_core.DiskCore.admit.Goals as goal

pub returns-in-Some-clause-acts : goal.returns-in-Some-clause-acts
returns-in-Some-clause-acts g c =
    let now = c.args.self.now in
    let does = broken_does g.D.Disk.disk g.A.Verifier.accepts (Admit c.args.prepared.now) now now refl c.failed_at.ensures.kept
    (λ old new fault why. why) c.in-Some.count (sym c.failed_at.ensures.broken ∙ c.in-Some.is) in
    does.acts

pub returns-in_default-commit : goal.returns-in_default-commit
returns-in_default-commit g c =
    let nodes = c.nodes-nodes.result in
    let store = nodes.store.now in
    let now = c.args.self.now in
    let does = rests_does g.D.Disk.disk g.A.Verifier.accepts (Admit c.args.prepared.now) now now refl c.failed_at.ensures.kept _ c.self.view_is
    store c.nodes-nodes.ensures.store (sym c.failed_at.ensures.broken ∙ c.in_default.is) c.receipt.result c.receipt.ensures
    (admit_rests (g.A.Verifier.accepts c.self.inside.auth) (g.D.Disk.disk store.disk) store.hand nodes.answered nodes.last nodes.faults c.args.prepared.now
    c.in-Ok.planned c.in-Ok.ensures.plan c.in-Ok.ensures.new_fork c.in_default-commit.is) in
    record { acts = does.acts; disk = does.changes }

pub returns-in-Err : goal.returns-in-Err
returns-in-Err g c =
    let nodes = c.nodes-nodes.result in
    let store = nodes.store.now in
    let now = c.args.self.now in
    let does = refused_does g.D.Disk.disk g.A.Verifier.accepts (Admit c.args.prepared.now) now now refl c.failed_at.ensures.kept _ c.self.view_is
    store c.nodes-nodes.ensures.store (sym c.failed_at.ensures.broken ∙ c.in_default.is) (λ old new fault why. why)
    c.in-Err.fault c.own_fault.result c.own_fault.ensures.store c.own_fault.ensures.other
    (admit_refused (g.A.Verifier.accepts c.self.inside.auth) (g.D.Disk.disk store.disk) store.hand nodes.answered nodes.last nodes.faults c.args.prepared.now _
    c.in-Err.fault c.in-Err.ensures.plan c.in-Err.ensures.new_fork) in
    record { acts = does.acts; disk = does.changes }

pub commit_change-done-requires-clause-fits : goal.commit_change-done-requires-clause-fits
commit_change-done-requires-clause-fits g c =
    rw (c.of.ensures, c.as_slice.ensures.items) (c.in-Ok.ensures.entered.fits c.in-Some-commit.commit c.in-Some-commit.is)

pub returns : goal.returns
returns g c =
    let nodes = c.nodes-nodes.result in
    let store = nodes.store.now in
    let disk = g.D.Disk.disk store.disk in
    let accepts = g.A.Verifier.accepts c.self.inside.auth in
    let planned = c.in-Ok.planned in
    let commit = c.in-Some-commit.commit in
    let part = part_of c.brought-part.result in
    let change = c.commit_change-done in
    let made = change.ensures in
    let told = c.told.ensures in
    let brings : bytes_in part ≡ bytes_in (brought_by c.args.prepared.now (content_of (g.D.Disk.disk c.self.inside.store.disk) c.self.inside.store.hand)) =
    ap bytes_in c.brought-part.ensures ∙ c.in-Ok.ensures.bytes
    ∙ ap (λ (s : Stored _). bytes_in (brought_by c.args.prepared.now (content_of (g.D.Disk.disk s.disk) s.hand))) c.nodes-nodes.ensures.store in
    let does = given_does g.D.Disk.disk g.A.Verifier.accepts (Admit c.args.prepared.now) _ c.args.self.now c.self.view_is
    c.failed_at.ensures.kept c.failed_at.ensures.rooted (sym c.failed_at.ensures.broken ∙ c.in_default.is) (λ old new fault why. why) g.met.D.Disk.may_stay
    (record { commit = commit; head = planned.change.head; records = c.of.result })
    (c.in-Ok.ensures.entered.fits commit c.in-Some-commit.is).head.few part store c.nodes-nodes.ensures.store
    (admit_plan accepts disk store.hand nodes.answered nodes.last nodes.faults c.args.prepared.now planned c.in-Ok.ensures.plan c.in-Ok.ensures.new_fork
    commit c.in-Some-commit.is c.of.result (c.of.ensures ∙ c.as_slice.ensures.items) part c.brought-part.ensures)
    change.result change.new.store change.new.file
    (record { takes = made.takes; writes = made.writes; behind = made.behind; torn = made.torn; laid_is = made.laid })
    (record {
      err = made.err;
      why = made.why;
      quiet = made.quiet;
      calls = subst (λ (bytes : List ℕ).
          Calls (calls_for bytes + 2) (g.D.Disk.disk c.self.inside.store.disk) (g.D.Disk.disk change.new.store.disk) change.result) brings made.calls;
    })
    c.told.new.self c.told.result (record { store_is = told.store; place_is = told.place; auth_is = told.auth; kept = told.kept; tells = told.tells }) in
    record { acts = does.acts; disk = does.changes }
