use Rattle.std.proofs.Common.{◌≡◌, ap, ◌∙◌, arith}
use Rattle.compact_enc.proofs.Steps.{if_given, if_more}
use Rattle.wire_messages.specs.Messages.{view, message_spelling, MessageFits}
use Rattle.wire_messages.specs.Reading.{message_of}
use Rattle.wire_messages.proofs.PassLaws.{message_passes}
use Rattle.wire_messages.proofs.AgainLaws.{message_again, yields_read}
use Rattle.wire_messages.proofs.read.decode.Goals as goal

pub returns-clause-fits : goal.returns-clause-fits
returns-clause-fits c =
    let body = c.args.body.now in
    if_given view c.message_from.result (message_of body) MessageFits c.message_from.ensures
    (if_more (message_of body) _ _ (message_passes body (λ i. omega (arith, c.type_inv.body i))) (λ m p. p.1))

pub returns-clause-found : goal.returns-clause-found
returns-clause-found c =
    let body = c.args.body.now in
    if_given view c.message_from.result (message_of body) (λ m. body ≡ message_spelling m) c.message_from.ensures
    (if_more (message_of body) _ _ (message_passes body (λ i. omega (arith, c.type_inv.body i))) (λ m p. p.0))

pub returns-clause-only : goal.returns-clause-only
returns-clause-only c m fits is =
    yields_read view c.message_from.result (message_of c.args.body.now) m c.message_from.ensures (ap message_of is ∙ message_again m fits)
