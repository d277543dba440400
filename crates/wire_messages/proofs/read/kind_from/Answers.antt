use Rattle.wire_messages.proofs.TypeLaws.{kind_read, kind_is_read}
use Rattle.wire_messages.proofs.read.kind_from.Goals as goal

pub returns-in_err-number_from : goal.returns-in_err-number_from
returns-in_err-number_from c =
    absurd (kind_is_read c.args.body.now c.new-from.result c.in_err-number_from.field-0.0 c.in-len1-up.len_at_least c.if-kind-gt-EXTENSION.false
    c.new-from.ensures.place c.new-from.ensures.rest c.in_err-number_from.ensures.gives)

pub returns : goal.returns
returns c =
    kind_read c.args.body.now c.new-from.result c.number_from.new.from c.in_ok-number_from.field-0 c.in-len1-up.len_at_least c.if-kind-gt-EXTENSION.false
    c.new-from.ensures.place c.new-from.ensures.rest c.in_ok-number_from.ensures.gives
