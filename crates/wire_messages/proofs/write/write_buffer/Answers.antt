use Rattle.compact_enc.proofs.Writing.{writes_put, writes_then}
use Rattle.compact_enc.specs.Spelling.{buffer_spelling}
use Rattle.wire_messages.proofs.write.write_buffer.Goals as goal

pub returns : goal.returns
returns c =
    writes_then _ _ _ _ _ _ _ c.in_ok-write_number.ensures
    (writes_put (buffer_spelling c.args.bytes.now) c.write_number.new.to c.put_buffer.new.self c.put_buffer.result
    c.put_buffer.ensures.same c.put_buffer.ensures.puts)
