use Rattle.std.proofs.Common.{Ok, Err}
use Rattle.compact_enc.specs.Spelling.{uint_spelling, buffer_spelling}
use Rattle.compact_enc.proofs.Writing.{writes_put, writes_stop, writes_fail, writes_then}
use Rattle.proof_form.specs.Twigs.{twigs_spelling}
use Rattle.proof_form.proofs.proof.write_block.Goals as goal

pub returns-in_err-put_buffer : goal.returns-in_err-put_buffer
returns-in_err-put_buffer c =
    let b = c.in-Some.block in
    let done = c.in_ok-put_uint.field-0 in
    let full = c.in_err-put_buffer.field-0.0 in
    rw c.in-Some.is (writes_fail _ _ _ full _ c.from_residual-in_err-put_buffer.ensures.0
    (writes_then (uint_spelling b.index) _ _ _ _ done _ (writes_put (uint_spelling b.index) c.args.to.now c.put_uint.new.self (Ok done) c.in_ok-put_uint.ensures.same c.in_ok-put_uint.ensures.puts)
    (writes_stop (buffer_spelling b.bytes.now) (twigs_spelling b.trail) _ _ full (writes_put (buffer_spelling b.bytes.now) c.put_uint.new.self c.put_buffer.new.self (Err full) c.in_err-put_buffer.ensures.same c.in_err-put_buffer.ensures.puts))))

pub returns : goal.returns
returns c =
    let b = c.in-Some.block in
    let done = c.in_ok-put_uint.field-0 in
    let done_too = c.in_ok-put_buffer.field-0 in
    rw c.in-Some.is
    (writes_then (uint_spelling b.index) _ _ _ _ done _ (writes_put (uint_spelling b.index) c.args.to.now c.put_uint.new.self (Ok done) c.in_ok-put_uint.ensures.same c.in_ok-put_uint.ensures.puts)
    (writes_then (buffer_spelling b.bytes.now) (twigs_spelling b.trail) _ _ _ done_too _ (writes_put (buffer_spelling b.bytes.now) c.put_uint.new.self c.put_buffer.new.self (Ok done_too) c.in_ok-put_buffer.ensures.same c.in_ok-put_buffer.ensures.puts)
    (rw (← c.as_slice.ensures.items) c.write_twigs.ensures)))
