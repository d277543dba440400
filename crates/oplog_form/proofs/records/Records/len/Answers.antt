use Rattle.std.proofs.Common.{ap, ◌∙◌, length, sym, subst}
use Rattle.oplog_form.specs.Records.{nodes_of, AreThere}
use Rattle.oplog_form.proofs.RecordReads.{rising_count}
use Rattle.oplog_form.proofs.records.Records.len.Goals as goal

pub returns-in-Spelled : goal.returns-in-Spelled
returns-in-Spelled c =
    let s = c.in-Spelled in
    sym (rising_count s.count s.least s.from (subst AreThere s.is c.self.invariant)) ∙ ap (λ form. length (nodes_of form)) (sym s.is) ∙ ap length c.self.view_is
