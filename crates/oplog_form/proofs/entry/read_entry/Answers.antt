use Rattle.std.proofs.Common.{◌≡◌, ap, ◌∙◌, arith}
use Rattle.compact_enc.proofs.Steps.{if_given, if_more}
use Rattle.oplog_form.specs.Entries.{entry_spelling, EntryFits, entry_in, entry_of}
use Rattle.oplog_form.proofs.FieldLaws.{whole_passes, whole_again, yields_read}
use Rattle.oplog_form.proofs.PayloadLaws.{entry_passes, entry_again}
use Rattle.oplog_form.proofs.entry.read_entry.Goals as goal

pub returns-clause-fits : goal.returns-clause-fits
returns-clause-fits c =
    let bytes = c.args.bytes.now in
    if_given (λ x. x) c.entry_whole.result (entry_of bytes) EntryFits c.entry_whole.ensures
    (if_more (entry_of bytes) _ _ (whole_passes entry_in entry_spelling EntryFits bytes (λ i. omega (arith, c.type_inv.bytes i)) entry_passes) (λ x p. p.1))

pub returns-clause-found : goal.returns-clause-found
returns-clause-found c =
    let bytes = c.args.bytes.now in
    if_given (λ x. x) c.entry_whole.result (entry_of bytes) (λ x. bytes ≡ entry_spelling x) c.entry_whole.ensures
    (if_more (entry_of bytes) _ _ (whole_passes entry_in entry_spelling EntryFits bytes (λ i. omega (arith, c.type_inv.bytes i)) entry_passes) (λ x p. p.0))

pub returns-clause-only : goal.returns-clause-only
returns-clause-only c x fits is =
    yields_read c.entry_whole.result (entry_of c.args.bytes.now) x c.entry_whole.ensures (ap entry_of is ∙ whole_again entry_in x (entry_spelling x) (entry_again x fits))
