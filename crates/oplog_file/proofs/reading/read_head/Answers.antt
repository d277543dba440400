use Rattle.std.proofs.Common.{◌≡◌, ◌+◌, length, take, drop, sym, ap, ◌∙◌, arith}
use Rattle.std.proofs.lemmas.List.{length-take-le}
use Rattle.std.specs.Int.{w32, from_le_bytes}
use Rattle.disk_trait.specs.declared.disk.Area.TheVariants.{Oplog}
use Rattle.oplog_file.specs.declared.layout.TheConstants.{ENTRIES_AT}
use Rattle.oplog_file.proofs.ReadLaws.{none_by_room, none_by_head, none_by_count, none_by_part, fills_true, fills_false, head_read, four_read}
use Rattle.oplog_file.proofs.reading.read_head.Goals.{then-count-gt-MAX_ENTRY_BYTES-via-then-count-gt-MAX_ENTRY_BYTES, then-count-gt-MAX_ENTRY_BYTES-via-else-count-gt-MAX_ENTRY_BYTES+then-count-used}
use Rattle.oplog_file.proofs.reading.read_head.Goals as goal

pub returns-then-used-lt-FRAME_HEAD_BYTES-clause-told : goal.returns-then-used-lt-FRAME_HEAD_BYTES-clause-told
returns-then-used-lt-FRAME_HEAD_BYTES-clause-told g c honest epoch number =
    none_by_room epoch number c.args.used ((g.D.Disk.disk c.args.disk.now).reads Oplog) c.requires.within (omega (arith, c.if-used-lt-FRAME_HEAD_BYTES.true))

pub slice_bounds-fill-end-2 : goal.slice_bounds-fill-end-2
slice_bounds-fill-end-2 g c = sym (length-take-le 32 c.args.room.now (omega (arith, c.requires.room)))

pub returns-then-not-branch-clause-told : goal.returns-then-not-branch-clause-told
returns-then-not-branch-clause-told g c honest epoch number =
    let area = (g.D.Disk.disk c.args.disk.now).reads Oplog in
    let size : length c.fill.new.room ≡ 32 = c.in_ok-fill.ensures.size ∙ length-take-le 32 c.args.room.now (omega (arith, c.requires.room)) in
    none_by_head epoch number c.args.used area c.requires.within (omega (arith, size, fills_false (ENTRIES_AT + c.args.used) area c.fill.new.room c.in_ok-fill.field-0 c.if-not-branch.true (c.in_ok-fill.ensures.fills honest)))

pub returns-then-count-gt-MAX_ENTRY_BYTES-clause-told : goal.returns-then-count-gt-MAX_ENTRY_BYTES-clause-told
returns-then-count-gt-MAX_ENTRY_BYTES-clause-told g c honest epoch number =
    let area = (g.D.Disk.disk c.args.disk.now).reads Oplog in
    let at = ENTRIES_AT + c.args.used in
    let size : length c.fill.new.room ≡ 32 = c.in_ok-fill.ensures.size ∙ length-take-le 32 c.args.room.now (omega (arith, c.requires.room)) in
    let filled = fills_true at area c.fill.new.room c.in_ok-fill.field-0 c.if-not-branch.false (c.in_ok-fill.ensures.fills honest) in
    let is : c.u32_at-count.result ≡ from_le_bytes w32 (take 4 (drop at area)) = c.u32_at-count.ensures ∙ ap (from_le_bytes w32) (four_read at area c.fill.new.room (drop 32 c.args.room.now) size filled.1) in
    elim c.then-count-gt-MAX_ENTRY_BYTES.branch [
      | then-count-gt-MAX_ENTRY_BYTES-via-then-count-gt-MAX_ENTRY_BYTES w ↦ none_by_count epoch number c.args.used area c.requires.within c.u32_at-count.result (omega (arith, c.if-used-lt-FRAME_HEAD_BYTES.false)) is (omega (arith, w.if-count-gt-MAX_ENTRY_BYTES))
      | then-count-gt-MAX_ENTRY_BYTES-via-else-count-gt-MAX_ENTRY_BYTES+then-count-used w ↦ none_by_part epoch number c.args.used area c.requires.within c.u32_at-count.result (omega (arith, c.if-used-lt-FRAME_HEAD_BYTES.false)) is (omega (arith, w.if-count-used))
    ]

pub returns-clause-told : goal.returns-clause-told
returns-clause-told g c honest =
    let area = (g.D.Disk.disk c.args.disk.now).reads Oplog in
    let at = ENTRIES_AT + c.args.used in
    let size : length c.fill.new.room ≡ 32 = c.in_ok-fill.ensures.size ∙ length-take-le 32 c.args.room.now (omega (arith, c.requires.room)) in
    let filled = fills_true at area c.fill.new.room c.in_ok-fill.field-0 c.if-not-branch.false (c.in_ok-fill.ensures.fills honest) in
    (c.u32_at-count.ensures ∙ ap (from_le_bytes w32) (four_read at area c.fill.new.room (drop 32 c.args.room.now) size filled.1), head_read at area c.fill.new.room (drop 32 c.args.room.now) size filled.1)
