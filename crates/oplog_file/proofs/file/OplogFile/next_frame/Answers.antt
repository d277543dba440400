use Rattle.std.proofs.Common.{◌≤◌, ◌<◌, length, drop, rules, IfSome, sym, subst, arith}
use Rattle.std.proofs.lemmas.List.{take_at}
use Rattle.disk_trait.specs.declared.disk.Area.TheVariants.{Oplog}
use Rattle.oplog_form.specs.declared.entry.TheConstants.{MAX_ENTRY_BYTES}
use Rattle.oplog_file.proofs.PassLaws.{passes_next}
use Rattle.oplog_file.proofs.file.OplogFile.next_frame.Goals as goal

pub returns-clause-next : goal.returns-clause-next
returns-clause-next g c honest =
    let area = (g.D.Disk.disk c.args.disk.now).reads Oplog in
    let inside = c.self.inside in
    let few : (0 < c.in-Some.payload_len) × (c.in-Some.payload_len ≤ MAX_ENTRY_BYTES) = subst (λ o. IfSome o (λ n. (0 < n) × (n ≤ MAX_ENTRY_BYTES))) c.in-Some.is c.in_ok-payload_len.ensures.few in
    passes_next area inside.epoch inside.count inside.used inside.last c.in-Some.payload_len _ c.fetch.new.room _ c.in_ok-payload_len.field-0 c.args.self.now (sym c.self.view_is) (c.in_ok-payload_len.ensures.counts honest) c.in-Some.is (omega (arith, few.1, c.in_ok-payload_len.ensures.size, c.deref_mut.ensures.len, c.self.invariant.room)) (take_at c.fetch.new.room (drop (length c.fetch.new.room) inside.frame.items) inside.frame.len (search rules))
