use Rattle.compact_enc.proofs.Writing.{writes_then}
use Rattle.oplog_form.proofs.commit.write_four.Goals as goal

pub returns : goal.returns
returns c = writes_then _ _ _ _ _ _ _ c.in_ok-write_pair.ensures c.write_pair-2.ensures
