use Rattle.std.proofs.Common.{Ok}
use Rattle.compact_enc.specs.Spelling.{uint_spelling}
use Rattle.compact_enc.proofs.Writing.{writes_put, writes_then}
use Rattle.proof_form.proofs.twigs.write_twig.Goals as goal

pub returns : goal.returns
returns c =
    let size = c.put_uint.new.self in
    let hash = c.put_fixed.new.self in
    let done = c.in_ok-put_uint.field-0 in
    writes_then (uint_spelling c.args.twig.now.size) c.args.twig.now.hash c.args.to.now size hash done c.put_fixed.result
    (writes_put (uint_spelling c.args.twig.now.size) c.args.to.now size (Ok done) c.in_ok-put_uint.ensures.same c.in_ok-put_uint.ensures.puts)
    (writes_put c.args.twig.now.hash size hash c.put_fixed.result c.put_fixed.ensures.same c.put_fixed.ensures.puts)
