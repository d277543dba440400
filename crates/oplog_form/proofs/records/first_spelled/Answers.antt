use Rattle.std.proofs.Common.{◌≡◌, Some, ◌∙◌, sym, ap, arith, Ok}
use Rattle.oplog_form.specs.Nodes.{record_in}
use Rattle.oplog_form.specs.Records.{first_of}
use Rattle.oplog_form.proofs.RecordReads.{rising_none, rising_first, rising_there}
use Rattle.oplog_form.proofs.records.first_spelled.Goals as goal

pub returns-then-count-eq0 : goal.returns-then-count-eq0
returns-then-count-eq0 c = ap first_of (sym (rising_none c.args.count c.args.least c.args.from.now c.if-count-eq0.true))

pub spelled-requires : goal.spelled-requires
spelled-requires c =
    let was : record_in c.args.least c.args.from.now ≡ Ok (c.in-Ok.node, c.record_from.new.from) = ap (record_in c.args.least) (sym c.copy-ahead.ensures.same) ∙ c.in-Ok.ensures.gives in
    record { there = (rising_first c.args.count c.args.least c.args.from.now c.in-Ok.node c.record_from.new.from (omega (arith, c.if-count-eq0.false)) was c.requires.there).0 }

pub returns-in-Ok : goal.returns-in-Ok
returns-in-Ok c =
    let was : record_in c.args.least c.args.from.now ≡ Ok (c.in-Ok.node, c.record_from.new.from) = ap (record_in c.args.least) (sym c.copy-ahead.ensures.same) ∙ c.in-Ok.ensures.gives in
    ap (λ nodes. Some (c.in-Ok.node, nodes)) c.spelled.ensures
    ∙ ap first_of (sym (rising_first c.args.count c.args.least c.args.from.now c.in-Ok.node c.record_from.new.from (omega (arith, c.if-count-eq0.false)) was c.requires.there).1)

pub returns-in-Err : goal.returns-in-Err
returns-in-Err c =
    absurd (rising_there c.args.count c.args.least c.args.from.now _ (omega (arith, c.if-count-eq0.false)) (ap (record_in c.args.least) (sym c.copy-ahead.ensures.same) ∙ c.in-Err.ensures.gives) c.requires.there)
