use Rattle.std.proofs.Common.{ℕ, true, Option, Err, refl, sym, ap, subst, ◌∙◌}
use Rattle.node_set.specs.declared.fault.CoreFault.TheVariants.{Broken}
use Rattle.core_state.specs.Calls.{Acts}
use Rattle.core_state.specs.Events.Event.{Make}
use Rattle.core_state.specs.Events.Reply.{Made}
use Rattle.core_state.specs.Events.{proof_in}
use Rattle.core_disk.specs.InHand.{IsKept}
use Rattle.core_disk.specs.Cored.{Cored, core_state}
use Rattle.core_disk.specs.Reading.{OnlyReads}
use Rattle.core_disk.proofs.CoredLemmas.{broken_acts}
use Rattle.core_disk.proofs.OnlyReading.{cored, none_read, only_read}
use Rattle.core_disk.proofs.ReadActs.{make_acts}
use Rattle.core_disk.proofs.disk_core.DiskCore.make.Goals as goal

pub returns-in-Some-clause-acts : goal.returns-in-Some-clause-acts
returns-in-Some-clause-acts g c =
    let now = c.args.self.now in
    let accepts = g.A.Verifier.accepts now.auth in
    let disk = g.D.Disk.disk now.store.disk in
    subst (λ (b : Option ℕ). Acts true (core_state accepts disk now.store.hand b) (Make c.args.request.now) (core_state accepts disk now.store.hand b) (Made (Err (Broken c.in-Some.count))))
    (sym c.in-Some.is ∙ c.failed_at.ensures.broken)
    (broken_acts accepts disk now.store.hand c.in-Some.count (Make c.args.request.now) (Made (Err (Broken c.in-Some.count))) c.failed_at.ensures.kept refl refl tt (λ new. refl))

pub returns-clause-acts : goal.returns-clause-acts
returns-clause-acts g c =
    let inside = c.self.inside in
    let kept = subst (λ (core : Cored _ _). IsKept core.store.hand) (sym c.self.view_is) c.failed_at.ensures.kept in
    let none = sym c.failed_at.ensures.broken ∙ c.in_default.is in
    let acts = make_acts (g.A.Verifier.accepts inside.auth) (g.D.Disk.disk inside.store.disk) (g.D.Disk.disk c.make.new.view.disk) inside.store.hand c.make.new.view.hand
    inside.store.answered c.make.new.view.answered inside.store.last c.make.new.view.last kept c.make.ensures.keeps c.args.request.now c.make.result c.make.ensures.other c.make.ensures.made c.make.ensures.fits in
    let accepts = g.A.Verifier.accepts inside.auth in
    let after = g.D.Disk.disk c.make.new.view.disk in
    let broken = ap (λ (core : Cored _ _). core.broken) c.self.view_is ∙ none in
    subst (λ (core : Cored _ _). Acts true (core_state (g.A.Verifier.accepts core.auth) (g.D.Disk.disk core.store.disk) core.store.hand core.broken)
    (Make c.args.request.now) (core_state accepts after c.make.new.view.hand inside.broken) (Made (proof_in c.make.result)))
    c.self.view_is
    (subst (λ (b : Option ℕ). Acts true (core_state accepts (g.D.Disk.disk inside.store.disk) inside.store.hand b) (Make c.args.request.now)
    (core_state accepts after c.make.new.view.hand b) (Made (proof_in c.make.result))) (sym broken) acts)

pub returns-in-Some-clause-leaves : goal.returns-in-Some-clause-leaves
returns-in-Some-clause-leaves g c = none_read g.D.Disk.disk c.args.self.now

pub returns-clause-leaves : goal.returns-clause-leaves
returns-clause-leaves g c =
    let inside = c.self.inside in
    let now = cored c.make.new.view inside.file inside.auth inside.broken in
    subst (λ (core : Cored _ _). OnlyReads g.D.Disk.disk core now) c.self.view_is
    (only_read g.D.Disk.disk g.met.D.Disk.rests (cored inside.store inside.file inside.auth inside.broken) now refl refl refl c.make.ensures.keeps.keeps c.make.ensures.keeps.faults)
