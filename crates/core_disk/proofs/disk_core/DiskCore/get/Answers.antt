use Rattle.std.proofs.Common.{ℕ, true, Option, Err, refl, sym, ap, subst, ◌∙◌}
use Rattle.node_set.specs.declared.fault.CoreFault.TheVariants.{Broken}
use Rattle.core_state.specs.Calls.{Acts}
use Rattle.core_state.specs.Events.Event.{Get}
use Rattle.core_state.specs.Events.Reply.{Read}
use Rattle.core_state.specs.Next.{answer_in}
use Rattle.core_disk.specs.InHand.{IsKept}
use Rattle.core_disk.specs.Cored.{Cored, core_state}
use Rattle.core_disk.specs.Reading.{OnlyReads, ReadsBlock}
use Rattle.core_disk.proofs.CoredLemmas.{broken_acts}
use Rattle.core_disk.proofs.OnlyReading.{cored, none_read, only_read, broken_reads, reads_block}
use Rattle.core_disk.proofs.ReadActs.{get_acts}
use Rattle.core_disk.proofs.disk_core.DiskCore.get.Goals as goal

pub returns-in-Some-clause-acts : goal.returns-in-Some-clause-acts
returns-in-Some-clause-acts g c =
    let now = c.args.self.now in
    let accepts = g.A.Verifier.accepts now.auth in
    let disk = g.D.Disk.disk now.store.disk in
    subst (λ (b : Option ℕ). Acts true (core_state accepts disk now.store.hand b) (Get c.args.index) (core_state accepts disk now.store.hand b) (Read (Err (Broken c.in-Some.count))))
    (sym c.in-Some.is ∙ c.failed_at.ensures.broken)
    (broken_acts accepts disk now.store.hand c.in-Some.count (Get c.args.index) (Read (Err (Broken c.in-Some.count))) c.failed_at.ensures.kept refl refl tt (λ new. refl))

pub returns-clause-acts : goal.returns-clause-acts
returns-clause-acts g c =
    let inside = c.self.inside in
    let kept = subst (λ (core : Cored _ _). IsKept core.store.hand) (sym c.self.view_is) c.failed_at.ensures.kept in
    let none = sym c.failed_at.ensures.broken ∙ c.in_default.is in
    let acts = get_acts (g.A.Verifier.accepts inside.auth) (g.D.Disk.disk inside.store.disk) (g.D.Disk.disk c.read_held.new.view.disk) inside.store.hand c.read_held.new.view.hand
    inside.store.answered c.read_held.new.view.answered inside.store.last c.read_held.new.view.last kept c.read_held.ensures.keeps c.args.index c.read_held.new.out c.read_held.result c.read_held.ensures.proved c.read_held.ensures.content in
    let accepts = g.A.Verifier.accepts inside.auth in
    let after = g.D.Disk.disk c.read_held.new.view.disk in
    let broken = ap (λ (core : Cored _ _). core.broken) c.self.view_is ∙ none in
    subst (λ (core : Cored _ _). Acts true (core_state (g.A.Verifier.accepts core.auth) (g.D.Disk.disk core.store.disk) core.store.hand core.broken)
    (Get c.args.index) (core_state accepts after c.read_held.new.view.hand inside.broken) (Read (answer_in c.read_held.new.out c.read_held.result)))
    c.self.view_is
    (subst (λ (b : Option ℕ). Acts true (core_state accepts (g.D.Disk.disk inside.store.disk) inside.store.hand b) (Get c.args.index)
    (core_state accepts after c.read_held.new.view.hand b) (Read (answer_in c.read_held.new.out c.read_held.result))) (sym broken) acts)

pub returns-in-Some-clause-leaves : goal.returns-in-Some-clause-leaves
returns-in-Some-clause-leaves g c = none_read g.D.Disk.disk c.args.self.now

pub returns-clause-leaves : goal.returns-clause-leaves
returns-clause-leaves g c =
    let inside = c.self.inside in
    let now = cored c.read_held.new.view inside.file inside.auth inside.broken in
    subst (λ (core : Cored _ _). OnlyReads g.D.Disk.disk core now) c.self.view_is
    (only_read g.D.Disk.disk g.met.D.Disk.rests (cored inside.store inside.file inside.auth inside.broken) now refl refl refl c.read_held.ensures.keeps.keeps c.read_held.ensures.keeps.faults)

pub returns-in-Some-clause-ends : goal.returns-in-Some-clause-ends
returns-in-Some-clause-ends g c = broken_reads g.D.Disk.disk c.args.self.now c.args.self.now c.args.index c.args.buf.now c.in-Some.count (sym c.failed_at.ensures.broken ∙ c.in-Some.is)

pub returns-clause-ends : goal.returns-clause-ends
returns-clause-ends g c =
    let inside = c.self.inside in
    let now = cored c.read_held.new.view inside.file inside.auth inside.broken in
    subst (λ (core : Cored _ _). ReadsBlock g.D.Disk.disk core now c.args.index c.read_held.new.out c.read_held.result) c.self.view_is
    (reads_block g.D.Disk.disk (cored inside.store inside.file inside.auth inside.broken) now c.args.index c.read_held.new.out c.read_held.result c.read_held.ensures.refused
    c.read_held.ensures.cause c.read_held.ensures.kept)
