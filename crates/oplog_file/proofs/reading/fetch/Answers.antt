use Rattle.std.proofs.Common.{◌≡◌, ◌+◌, ◌-◌, length, drop, None, Some, IfSome, ◌≤◌, subst, ◌∙◌, arith, rules}
use Rattle.std.proofs.lemmas.List.{length-take, length-drop}
use Rattle.disk_trait.specs.declared.disk.Area.TheVariants.{Oplog}
use Rattle.oplog_file.specs.declared.layout.TheConstants.{ENTRIES_AT, MAX_ENTRIES_BYTES}
use Rattle.oplog_form.specs.declared.entry.TheConstants.{MAX_ENTRY_BYTES}
use Rattle.oplog_file.specs.Passing.{HeadTold, Fills}
use Rattle.oplog_file.proofs.ConsultLaws.{consults_then, told_before}
use Rattle.oplog_file.proofs.ReadLaws.{none_by_payload, entry_by_room, fills_true, fills_false}
use Rattle.oplog_file.proofs.reading.fetch.Goals as goal

pub returns-in_default-clause-counts : goal.returns-in_default-clause-counts
returns-in_default-clause-counts g c honest =
    let area = (g.D.Disk.disk c.args.disk.now).reads Oplog in
    let told : HeadTold c.args.used area c.read_head.new.room None = subst (HeadTold c.args.used area c.read_head.new.room) c.in_default.is (c.in_ok-count.ensures.told honest) in
    told c.args.epoch c.args.number

pub returns-in_err-fill-clause-consults : goal.returns-in_err-fill-clause-consults
returns-in_err-fill-clause-consults g c = consults_then _ (g.D.Disk.disk c.read_head.new.disk) _ _ _ c.in_ok-count.ensures.consults (search rules)

pub returns-then-not-branch-clause-consults : goal.returns-then-not-branch-clause-consults
returns-then-not-branch-clause-consults g c = consults_then _ (g.D.Disk.disk c.read_head.new.disk) _ _ _ c.in_ok-count.ensures.consults (search rules)

pub returns-then-not-branch-clause-counts : goal.returns-then-not-branch-clause-counts
returns-then-not-branch-clause-counts g c honest =
    let old = g.D.Disk.disk c.args.disk.now in
    let mid = g.D.Disk.disk c.read_head.new.disk in
    let area = old.reads Oplog in
    let told : HeadTold c.args.used area c.read_head.new.room (Some c.in-Some.count) = subst (HeadTold c.args.used area c.read_head.new.room) c.in-Some.is (c.in_ok-count.ensures.told honest) in
    let fits : 32 + c.in-Some.count ≤ MAX_ENTRIES_BYTES - c.args.used = subst (λ o. IfSome o (λ n. 32 + n ≤ MAX_ENTRIES_BYTES - c.args.used)) c.in-Some.is c.in_ok-count.ensures.fits in
    let few : c.in-Some.count ≤ MAX_ENTRY_BYTES = subst (λ o. IfSome o (λ n. n ≤ MAX_ENTRY_BYTES)) c.in-Some.is c.in_ok-count.ensures.few in
    let long : length c.read_head.new.room ≡ 32 + MAX_ENTRY_BYTES = c.in_ok-count.ensures.size ∙ c.requires.room in
    let size : length c.fill.new.room ≡ c.in-Some.count = omega (arith, c.in_ok-fill.ensures.size, long, few, length-take (32 + c.in-Some.count - 32) (drop 32 c.read_head.new.room), length-drop 32 c.read_head.new.room) in
    let fills : Fills (ENTRIES_AT + c.args.used + 32) area c.fill.new.room c.in_ok-fill.field-0 = told_before old mid _ c.in_ok-count.ensures.consults (λ l. Fills (ENTRIES_AT + c.args.used + 32) l c.fill.new.room c.in_ok-fill.field-0) honest c.in_ok-fill.ensures.fills in
    none_by_payload c.args.epoch c.args.number c.args.used area c.requires.within c.in-Some.count told.0 fits c.fill.new.room size (fills_false (ENTRIES_AT + c.args.used + 32) area c.fill.new.room c.in_ok-fill.field-0 c.if-not-branch.true fills)

pub returns-clause-consults : goal.returns-clause-consults
returns-clause-consults g c = consults_then _ (g.D.Disk.disk c.read_head.new.disk) _ _ _ c.in_ok-count.ensures.consults (search rules)

pub returns-clause-counts : goal.returns-clause-counts
returns-clause-counts g c honest =
    let old = g.D.Disk.disk c.args.disk.now in
    let mid = g.D.Disk.disk c.read_head.new.disk in
    let area = old.reads Oplog in
    let told : HeadTold c.args.used area c.read_head.new.room (Some c.in-Some.count) = subst (HeadTold c.args.used area c.read_head.new.room) c.in-Some.is (c.in_ok-count.ensures.told honest) in
    let fits : 32 + c.in-Some.count ≤ MAX_ENTRIES_BYTES - c.args.used = subst (λ o. IfSome o (λ n. 32 + n ≤ MAX_ENTRIES_BYTES - c.args.used)) c.in-Some.is c.in_ok-count.ensures.fits in
    let few : c.in-Some.count ≤ MAX_ENTRY_BYTES = subst (λ o. IfSome o (λ n. n ≤ MAX_ENTRY_BYTES)) c.in-Some.is c.in_ok-count.ensures.few in
    let long : length c.read_head.new.room ≡ 32 + MAX_ENTRY_BYTES = c.in_ok-count.ensures.size ∙ c.requires.room in
    let size : length c.fill.new.room ≡ c.in-Some.count = omega (arith, c.in_ok-fill.ensures.size, long, few, length-take (32 + c.in-Some.count - 32) (drop 32 c.read_head.new.room), length-drop 32 c.read_head.new.room) in
    let fills : Fills (ENTRIES_AT + c.args.used + 32) area c.fill.new.room c.in_ok-fill.field-0 = told_before old mid _ c.in_ok-count.ensures.consults (λ l. Fills (ENTRIES_AT + c.args.used + 32) l c.fill.new.room c.in_ok-fill.field-0) honest c.in_ok-fill.ensures.fills in
    let filled = fills_true (ENTRIES_AT + c.args.used + 32) area c.fill.new.room c.in_ok-fill.field-0 c.if-not-branch.false fills in
    entry_by_room c.args.epoch c.args.number c.args.used area c.requires.within c.in-Some.count told.0 fits c.read_head.new.room c.fill.new.room _ c.entry_in.result (omega (arith, long)) told.1 size filled.1 c.entry_in.ensures.counts c.entry_in.ensures.within
