use Rattle.compact_enc.proofs.Writing.{writes_stop, writes_fail, writes_then}
use Rattle.oplog_form.specs.Entries.{entry_spelling}
use Rattle.oplog_form.proofs.entry.write_entry.Goals as goal

pub returns-in_err-write_head : goal.returns-in_err-write_head
unfolding entry_spelling
returns-in_err-write_head c = writes_fail _ _ _ _ _ c.from_residual-in_err-write_head.ensures.0
    (writes_then _ _ _ _ _ _ _ c.in_ok-write_commit.ensures (writes_stop _ _ _ _ _ c.in_err-write_head.ensures))

pub returns : goal.returns
unfolding entry_spelling
returns c = writes_then _ _ _ _ _ _ _ c.in_ok-write_commit.ensures (writes_then _ _ _ _ _ _ _ c.in_ok-write_head.ensures c.write_records.ensures)
