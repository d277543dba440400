use Rattle.std.proofs.Common.{length, Ok}
use Rattle.std.specs.List.{flat_map}
use Rattle.compact_enc.specs.Spelling.{uint_spelling}
use Rattle.compact_enc.proofs.Writing.{writes_put, writes_then}
use Rattle.proof_form.specs.Twigs.{twig_spelling}
use Rattle.proof_form.proofs.twigs.write_twigs.Goals as goal

pub returns : goal.returns
returns c =
    let count = uint_spelling (length c.args.twigs.now) in
    let done = c.in_ok-put_uint.field-0 in
    writes_then count (flat_map twig_spelling c.args.twigs.now) c.args.to.now c.put_uint.new.self c.write_each.new.to done c.write_each.result
    (writes_put count c.args.to.now c.put_uint.new.self (Ok done) c.in_ok-put_uint.ensures.same c.in_ok-put_uint.ensures.puts) c.write_each.ensures
