use Rattle.std.proofs.Common.{◌++◌, length, subst}
use Rattle.std.specs.List.{flat_map}
use Rattle.compact_enc.specs.Spelling.{uint_spelling}
use Rattle.compact_enc.specs.Written.{Writes}
use Rattle.compact_enc.proofs.Writing.{writes_then}
use Rattle.oplog_form.specs.Nodes.{record_spelling}
use Rattle.oplog_form.proofs.records.write_records.Goals as goal

pub returns : goal.returns
returns c =
    subst (λ nodes. Writes (uint_spelling (length c.args.records.now) ++ flat_map record_spelling nodes) c.args.to.now c.write_each.new.to c.write_each.result) c.copy.ensures
    (subst (λ count. Writes (uint_spelling count ++ flat_map record_spelling c.copy.result) c.args.to.now c.write_each.new.to c.write_each.result) c.len.ensures
    (writes_then _ _ _ _ _ _ _ c.in_ok-write_number.ensures c.write_each.ensures))
