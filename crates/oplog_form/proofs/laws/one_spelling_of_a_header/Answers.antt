use Rattle.oplog_form.specs.Headers.{header_spelling, header_in}
use Rattle.oplog_form.proofs.FieldLaws.{one_value}
use Rattle.oplog_form.proofs.PayloadLaws.{header_again}
use Rattle.oplog_form.proofs.laws.one_spelling_of_a_header.Goals as goal

pub returns : goal.returns
returns c a b x y p q = one_value header_in a b (header_spelling a) (header_spelling b) x y (header_again a p) (header_again b q)
