use Rattle.std.proofs.Common.{ℕ, true, Option, Ok, Err, refl, sym, ap, subst, ◌∙◌}
use Rattle.bit_field.specs.Places.{has}
use Rattle.bit_field.specs.Pages.{page_of}
use Rattle.node_set.specs.declared.fault.CoreFault.TheVariants.{Broken}
use Rattle.core_state.specs.Calls.{Acts}
use Rattle.core_state.specs.Events.Event.{Page}
use Rattle.core_state.specs.Events.Reply.{Bits}
use Rattle.core_disk.specs.InHand.{InHand}
use Rattle.core_disk.specs.Cored.{Cored, core_state}
use Rattle.core_disk.proofs.CoredLemmas.{broken_acts}
use Rattle.core_disk.proofs.OnlyReading.{none_read}
use Rattle.core_disk.proofs.ReadActs.{page_acts}
use Rattle.core_disk.proofs.disk_core.DiskCore.bits.Goals as goal

pub returns-in-Some-clause-acts : goal.returns-in-Some-clause-acts
returns-in-Some-clause-acts g c =
    let now = c.args.self.now in
    let accepts = g.A.Verifier.accepts now.auth in
    let disk = g.D.Disk.disk now.store.disk in
    let reply = Bits (Err (Broken c.in-Some.count)) in
    subst (λ (b : Option ℕ). Acts true (core_state accepts disk now.store.hand b) (Page c.args.number) (core_state accepts disk now.store.hand b) reply)
    (sym c.in-Some.is ∙ c.failed_at.ensures.broken)
    (broken_acts accepts disk now.store.hand c.in-Some.count (Page c.args.number) reply c.failed_at.ensures.kept refl refl tt (λ new. refl))

pub returns-clause-acts : goal.returns-clause-acts
returns-clause-acts g c =
    let now = c.args.self.now in
    let accepts = g.A.Verifier.accepts now.auth in
    let disk = g.D.Disk.disk now.store.disk in
    let none = sym c.failed_at.ensures.broken ∙ c.in_default.is in
    let same = c.known.ensures.same ∙ ap (λ (core : Cored _ _). core.store.hand) c.self.view_is in
    let page = c.page.ensures ∙ ap (λ (hand : InHand). page_of (has hand.held) c.args.number) same in
    subst (λ (b : Option ℕ). Acts true (core_state accepts disk now.store.hand b) (Page c.args.number) (core_state accepts disk now.store.hand b) (Bits (Ok c.page.new.out)))
    (sym none) (page_acts accepts disk now.store.hand c.failed_at.ensures.kept c.args.number c.page.new.out page)

pub returns-in-Some-clause-leaves : goal.returns-in-Some-clause-leaves
returns-in-Some-clause-leaves g c = none_read g.D.Disk.disk c.args.self.now

pub returns-clause-leaves : goal.returns-clause-leaves
returns-clause-leaves g c = none_read g.D.Disk.disk c.args.self.now
