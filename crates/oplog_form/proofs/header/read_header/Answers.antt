use Rattle.std.proofs.Common.{◌≡◌, ap, ◌∙◌, arith}
use Rattle.compact_enc.proofs.Steps.{if_given, if_more}
use Rattle.oplog_form.specs.Headers.{header_spelling, HeaderFits, header_in, header_of}
use Rattle.oplog_form.proofs.FieldLaws.{whole_passes, whole_again, yields_read}
use Rattle.oplog_form.proofs.PayloadLaws.{header_passes, header_again}
use Rattle.oplog_form.proofs.header.read_header.Goals as goal

pub returns-clause-fits : goal.returns-clause-fits
returns-clause-fits c =
    let bytes = c.args.bytes.now in
    if_given (λ x. x) c.header_whole.result (header_of bytes) HeaderFits c.header_whole.ensures
    (if_more (header_of bytes) _ _ (whole_passes header_in header_spelling HeaderFits bytes (λ i. omega (arith, c.type_inv.bytes i)) header_passes) (λ x p. p.1))

pub returns-clause-found : goal.returns-clause-found
returns-clause-found c =
    let bytes = c.args.bytes.now in
    if_given (λ x. x) c.header_whole.result (header_of bytes) (λ x. bytes ≡ header_spelling x) c.header_whole.ensures
    (if_more (header_of bytes) _ _ (whole_passes header_in header_spelling HeaderFits bytes (λ i. omega (arith, c.type_inv.bytes i)) header_passes) (λ x p. p.0))

pub returns-clause-only : goal.returns-clause-only
returns-clause-only c x fits is =
    yields_read c.header_whole.result (header_of c.args.bytes.now) x c.header_whole.ensures (ap header_of is ∙ whole_again header_in x (header_spelling x) (header_again x fits))
