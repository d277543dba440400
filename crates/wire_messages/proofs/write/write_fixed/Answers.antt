use Rattle.compact_enc.proofs.Writing.{writes_put, writes_then}
use Rattle.wire_messages.proofs.write.write_fixed.Goals as goal

pub returns : goal.returns
returns c =
    writes_then _ _ _ _ _ _ _ c.in_ok-write_number.ensures
    (writes_put (c.args.bytes.now) c.write_number.new.to c.put_fixed.new.self c.put_fixed.result c.put_fixed.ensures.same c.put_fixed.ensures.puts)
