use Rattle.std.proofs.Common.{◌≡◌, ◌≤◌, ◌-◌, ◌+◌}
use Rattle.oplog_form.specs.Form.{past}
use Rattle.oplog_form.specs.Nodes.{rising_in}
use Rattle.oplog_form.specs.declared.commit.TheConstants.{MAX_NUMBER}
use Rattle.oplog_form.proofs.records.pass_records.Given as goal

abbrev pub invariant-loop : goal.invariant-loop
invariant-loop l = (past (rising_in (l.count - l.counter) l.least l.from) ≡ past (rising_in l.count 0 l.fn.from)) × (l.least ≤ MAX_NUMBER + 1)
