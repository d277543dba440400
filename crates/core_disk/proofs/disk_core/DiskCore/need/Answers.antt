use Rattle.std.proofs.Common.{ℕ, ◌<◌, ◌≤◌, true, Option, Err, arith, refl, sym, ap, subst, ◌∙◌}
use Rattle.node_set.specs.declared.fault.CoreFault.TheVariants.{Broken, OutOfRange}
use Rattle.core_state.specs.Calls.{Acts}
use Rattle.core_state.specs.Events.Event.{Need}
use Rattle.core_state.specs.Events.Reply.{Number}
use Rattle.merkle_nodes.specs.declared.roots.Head.{Head}
use Rattle.core_disk.specs.InHand.{InHand, IsKept}
use Rattle.core_disk.specs.Cored.{Cored, core_state}
use Rattle.core_disk.specs.Reading.{OnlyReads}
use Rattle.core_disk.proofs.CoredLemmas.{broken_acts}
use Rattle.core_disk.proofs.OnlyReading.{cored, none_read, only_read}
use Rattle.core_disk.proofs.ReadActs.{view_keeps, need_acts, need_refused_acts}
use Rattle.core_disk.proofs.disk_core.DiskCore.need.Goals as goal

pub returns-in-Some-clause-acts : goal.returns-in-Some-clause-acts
returns-in-Some-clause-acts g c =
    let now = c.args.self.now in
    let accepts = g.A.Verifier.accepts now.auth in
    let disk = g.D.Disk.disk now.store.disk in
    subst (λ (b : Option ℕ). Acts true (core_state accepts disk now.store.hand b) (Need c.args.index) (core_state accepts disk now.store.hand b) (Number (Err (Broken c.in-Some.count))))
    (sym c.in-Some.is ∙ c.failed_at.ensures.broken)
    (broken_acts accepts disk now.store.hand c.in-Some.count (Need c.args.index) (Number (Err (Broken c.in-Some.count))) c.failed_at.ensures.kept refl refl tt (λ new. refl))

pub returns-clause-acts : goal.returns-clause-acts
returns-clause-acts g c =
    let inside = c.self.inside in
    let kept = subst (λ (core : Cored _ _). IsKept core.store.hand) (sym c.self.view_is) c.failed_at.ensures.kept in
    let none = sym c.failed_at.ensures.broken ∙ c.in_default.is in
    let keeps = view_keeps _ _ c.need.ensures.keeps c.need.ensures.cause.faults c.need.ensures.cause.answered in
    let long = ap (λ (head : Head). head.length) (c.head-end.ensures.head ∙ ap (λ (hand : InHand). hand.head) c.known.ensures.same) in
    let within : c.args.index < inside.store.hand.head.length = omega (arith, long, c.if-end-index.false) in
    let acts = need_acts (g.A.Verifier.accepts inside.auth) (g.D.Disk.disk inside.store.disk) (g.D.Disk.disk c.need.new.view.disk) inside.store.hand c.need.new.view.hand
    inside.store.answered c.need.new.view.answered inside.store.last c.need.new.view.last kept keeps c.args.index c.need.result within c.need.ensures.few c.need.ensures.need c.need.ensures.cause in
    let accepts = g.A.Verifier.accepts inside.auth in
    let after = g.D.Disk.disk c.need.new.view.disk in
    let broken = ap (λ (core : Cored _ _). core.broken) c.self.view_is ∙ none in
    subst (λ (core : Cored _ _). Acts true (core_state (g.A.Verifier.accepts core.auth) (g.D.Disk.disk core.store.disk) core.store.hand core.broken)
    (Need c.args.index) (core_state accepts after c.need.new.view.hand inside.broken) (Number c.need.result))
    c.self.view_is
    (subst (λ (b : Option ℕ). Acts true (core_state accepts (g.D.Disk.disk inside.store.disk) inside.store.hand b) (Need c.args.index)
    (core_state accepts after c.need.new.view.hand b) (Number c.need.result)) (sym broken) acts)

pub returns-then-end-index-clause-acts : goal.returns-then-end-index-clause-acts
returns-then-end-index-clause-acts g c =
    let now = c.args.self.now in
    let accepts = g.A.Verifier.accepts now.auth in
    let disk = g.D.Disk.disk now.store.disk in
    let none = sym c.failed_at.ensures.broken ∙ c.in_default.is in
    let same = c.known.ensures.same ∙ ap (λ (core : Cored _ _). core.store.hand) c.self.view_is in
    let long = ap (λ (head : Head). head.length) (c.head-end.ensures.head ∙ ap (λ (hand : InHand). hand.head) same) in
    let past : now.store.hand.head.length ≤ c.args.index = omega (arith, long, c.if-end-index.true) in
    subst (λ (n : ℕ). Acts true (core_state accepts disk now.store.hand now.broken) (Need c.args.index) (core_state accepts disk now.store.hand now.broken) (Number (Err (OutOfRange n))))
    (sym long)
    (subst (λ (b : Option ℕ). Acts true (core_state accepts disk now.store.hand b) (Need c.args.index) (core_state accepts disk now.store.hand b) (Number (Err (OutOfRange now.store.hand.head.length))))
    (sym none) (need_refused_acts accepts disk now.store.hand c.failed_at.ensures.kept c.args.index past))

pub returns-in-Some-clause-leaves : goal.returns-in-Some-clause-leaves
returns-in-Some-clause-leaves g c = none_read g.D.Disk.disk c.args.self.now

pub returns-clause-leaves : goal.returns-clause-leaves
returns-clause-leaves g c =
    let inside = c.self.inside in
    let now = cored c.need.new.view inside.file inside.auth inside.broken in
    subst (λ (core : Cored _ _). OnlyReads g.D.Disk.disk core now) c.self.view_is
    (only_read g.D.Disk.disk g.met.D.Disk.rests (cored inside.store inside.file inside.auth inside.broken) now refl refl refl c.need.ensures.keeps c.need.ensures.cause.faults)

pub returns-then-end-index-clause-leaves : goal.returns-then-end-index-clause-leaves
returns-then-end-index-clause-leaves g c = none_read g.D.Disk.disk c.args.self.now
