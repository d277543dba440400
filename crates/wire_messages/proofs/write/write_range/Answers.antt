use Rattle.compact_enc.proofs.Writing.{writes_then}
use Rattle.wire_messages.proofs.write.write_range.Goals as goal

pub returns : goal.returns
returns c =
    writes_then _ _ _ _ _ _ _ c.in_ok-write_drop.ensures
    c.write_numbers.ensures
