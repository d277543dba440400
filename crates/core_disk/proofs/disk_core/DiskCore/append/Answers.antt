use Rattle.std.proofs.Common.{ℕ, ◌+◌, ◌<◌, List, length, Option, Some, sym, ap, subst, refl, ◌∙◌, arith}
use Rattle.commit_book.specs.declared.commit.Commit.TheVariants.{Append as AppendCommit}
use Rattle.core_state.specs.Events.Event.{Append}
use Rattle.oplog_file.specs.Storing.{Calls}
use Rattle.node_set.specs.Contents.{bytes_under}
use Rattle.core_disk.specs.InHand.{InHand}
use Rattle.core_disk.specs.Plans.{Part, calls_for}
use Rattle.core_disk.specs.Stored.{content_of}
use Rattle.core_disk.proofs.ChangePlansMade.{append_rests, append_part, append_plan, signed_few}
use Rattle.core_disk.proofs.ChangeActs.{broken_does, refused_does, rests_does, given_does}
use Rattle.core_disk.proofs.disk_core.DiskCore.append.Goals as goal

pub returns-in-Some-clause-acts : goal.returns-in-Some-clause-acts
returns-in-Some-clause-acts g c =
    let now = c.args.self.now in
    let does = broken_does g.D.Disk.disk g.A.Verifier.accepts (Append c.args.blocks.now) now now refl c.failed_at.ensures.kept
    (λ old new fault why. why) c.in-Some.count (sym c.failed_at.ensures.broken ∙ c.in-Some.is) in
    does.acts

pub returns-then-len-eq0 : goal.returns-then-len-eq0
returns-then-len-eq0 g c =
    let now = c.args.self.now in
    let store = now.store in
    let does = rests_does g.D.Disk.disk g.A.Verifier.accepts (Append c.args.blocks.now) now now refl c.failed_at.ensures.kept now refl
    store refl (sym c.failed_at.ensures.broken ∙ c.in_default.is) c.receipt.result c.receipt.ensures
    (λ stands. append_rests (g.A.Verifier.accepts now.auth)
    (content_of (g.D.Disk.disk store.disk) store.hand) c.args.blocks.now (sym c.len.ensures ∙ c.if-len-eq0.true)) in
    record { acts = does.acts; disk = does.changes }

pub returns-in-Err : goal.returns-in-Err
returns-in-Err g c =
    let store = c.self.inside.store in
    let does = refused_does g.D.Disk.disk g.A.Verifier.accepts (Append c.args.blocks.now) c.args.self.now _ c.self.view_is
    c.failed_at.ensures.kept _ c.self.view_is store refl (sym c.failed_at.ensures.broken ∙ c.in_default.is) (λ old new fault why. why)
    c.in-Err.fault c.own_fault.result c.own_fault.ensures.store c.own_fault.ensures.other (λ stands other. (c.in-Err.ensures.plan, refl)) in
    record { acts = does.acts; disk = does.changes }

pub returns : goal.returns
returns g c =
    let store = c.self.inside.store in
    let disk = g.D.Disk.disk store.disk in
    let accepts = g.A.Verifier.accepts c.self.inside.auth in
    let blocks = c.args.blocks.now in
    let plan = c.in-Ok.ensures.plan in
    let some : 0 < length blocks = omega (arith, c.len.ensures, c.if-len-eq0.false) in
    let at_is = c.bytes-at.ensures ∙ ap (λ (hand : InHand). bytes_under hand.roots) c.known.ensures.same in
    let part : Option Part = Some (record { at = c.bytes-at.result; bytes = c.flat.result.now }) in
    let part_is = append_part accepts disk store.hand store.answered store.last disk.faults blocks c.known.ensures.rooted c.bytes-at.result at_is
    c.flat.result.now c.flat.ensures in
    let few = signed_few accepts disk store.hand store.answered store.last disk.faults _ _ _ _ c.in-Ok.head plan.1 in
    let change = c.commit_change-done in
    let made = change.ensures in
    let told = c.told.ensures in
    let does = given_does g.D.Disk.disk g.A.Verifier.accepts (Append c.args.blocks.now) _ c.args.self.now c.self.view_is
    c.failed_at.ensures.kept c.failed_at.ensures.rooted (sym c.failed_at.ensures.broken ∙ c.in_default.is) (λ old new fault why. why) g.met.D.Disk.may_stay
    (record { commit = AppendCommit c.len-2.result; head = c.in-Ok.head; records = c.of.result }) few part store refl
    (append_plan accepts disk store.hand store.answered store.last disk.faults blocks c.plan_append-planned.new.nodes.items c.in-Ok.head some plan.0 plan.1
    c.len-2.result c.len-2.ensures c.of.result (c.of.ensures ∙ c.as_slice.ensures.value) part part_is)
    change.result change.new.store change.new.file
    (record { takes = made.takes; writes = made.writes; behind = made.behind; torn = made.torn; laid_is = made.laid })
    (record {
      err = made.err;
      why = made.why;
      quiet = made.quiet;
      calls = subst (λ (bytes : List ℕ). Calls (calls_for bytes + 2) disk (g.D.Disk.disk change.new.store.disk) change.result) c.flat.ensures made.calls;
    })
    c.told.new.self c.told.result (record { store_is = told.store; place_is = told.place; auth_is = told.auth; kept = told.kept; tells = told.tells }) in
    record { acts = does.acts; disk = does.changes }
