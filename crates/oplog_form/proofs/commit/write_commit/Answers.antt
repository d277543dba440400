use Rattle.std.proofs.Common.{◌++◌, subst}
use Rattle.compact_enc.specs.Spelling.{uint_spelling}
use Rattle.compact_enc.specs.Written.{Writes}
use Rattle.compact_enc.proofs.Writing.{writes_then}
use Rattle.oplog_form.specs.Commits.{numbers_spelling}
use Rattle.oplog_form.proofs.commit.write_commit.Goals as goal

pub returns : goal.returns
returns c =
    subst (λ kind. Writes (uint_spelling kind ++ numbers_spelling c.args.commit.now) c.args.to.now c.write_numbers.new.out c.write_numbers.result) c.kind.ensures
    (writes_then _ _ _ _ _ _ _ c.in_ok-write_number.ensures c.write_numbers.ensures)
