use Rattle.std.proofs.Common.{Ok}
use Rattle.compact_enc.specs.Spelling.{uint_spelling}
use Rattle.compact_enc.proofs.Writing.{writes_put, writes_then}
use Rattle.proof_form.proofs.fields.write_numbers.Goals as goal

pub returns : goal.returns
returns c =
    let first = c.put_uint.new.self in
    let second = c.put_uint-2.new.self in
    let done = c.in_ok-put_uint.field-0 in
    writes_then (uint_spelling c.args.first) (uint_spelling c.args.second) c.args.to.now first second done c.put_uint-2.result
    (writes_put (uint_spelling c.args.first) c.args.to.now first (Ok done) c.in_ok-put_uint.ensures.same c.in_ok-put_uint.ensures.puts)
    (writes_put (uint_spelling c.args.second) first second c.put_uint-2.result c.put_uint-2.ensures.same c.put_uint-2.ensures.puts)
