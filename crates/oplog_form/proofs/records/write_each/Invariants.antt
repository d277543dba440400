use Rattle.std.proofs.Common.{◌≡◌, ◌+◌, length}
use Rattle.oplog_form.proofs.RecordWrites.{Halfway}
use Rattle.oplog_form.proofs.records.write_each.Given as goal

-- those in front are written, and each turn writes one
abbrev pub invariant-loop : goal.invariant-loop
invariant-loop l = Halfway l.fn.records l.left l.fn.to l.to × (length l.left + l.counter ≡ l.end)
