use Rattle.oplog_form.specs.Entries.{entry_spelling, entry_in}
use Rattle.oplog_form.proofs.FieldLaws.{one_value}
use Rattle.oplog_form.proofs.PayloadLaws.{entry_again}
use Rattle.oplog_form.proofs.laws.one_spelling_of_an_entry.Goals as goal

pub returns : goal.returns
returns c a b x y p q = one_value entry_in a b (entry_spelling a) (entry_spelling b) x y (entry_again a p) (entry_again b q)
