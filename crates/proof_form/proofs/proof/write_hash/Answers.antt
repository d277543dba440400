use Rattle.std.proofs.Common.{◌≡◌, ◌++◌, Ok, Err, subst}
use Rattle.merkle_nodes.specs.Roots.{twig_of}
use Rattle.compact_enc.specs.Written.{Writes}
use Rattle.compact_enc.specs.Spelling.{uint_spelling}
use Rattle.compact_enc.proofs.Writing.{writes_put, writes_stop, writes_fail, writes_then}
use Rattle.proof_form.specs.Twigs.{twig_spelling, twigs_spelling}
use Rattle.proof_form.proofs.proof.write_hash.Goals as goal

pub returns-in_err-write_twig : goal.returns-in_err-write_twig
returns-in_err-write_twig c =
    let h = c.in-Some.hash in
    let done = c.in_ok-put_uint.field-0 in
    let full = c.in_err-write_twig.field-0.0 in
    let twig : c.twig.result ≡ twig_of h.node = c.twig.ensures in
    rw c.in-Some.is (writes_fail _ _ _ full _ c.from_residual-in_err-write_twig.ensures.0
    (writes_then (uint_spelling h.node.index) _ _ _ _ done _ (writes_put (uint_spelling h.node.index) c.args.to.now c.put_uint.new.self (Ok done) c.in_ok-put_uint.ensures.same c.in_ok-put_uint.ensures.puts)
    (subst (λ t. Writes (twig_spelling t ++ twigs_spelling h.trail) c.put_uint.new.self c.write_twig.new.to (Err full)) twig (writes_stop _ (twigs_spelling h.trail) _ _ _ c.in_err-write_twig.ensures))))

pub returns : goal.returns
returns c =
    let h = c.in-Some.hash in
    let done = c.in_ok-put_uint.field-0 in
    let twig : c.twig.result ≡ twig_of h.node = c.twig.ensures in
    rw c.in-Some.is
    (writes_then (uint_spelling h.node.index) _ _ _ _ done _ (writes_put (uint_spelling h.node.index) c.args.to.now c.put_uint.new.self (Ok done) c.in_ok-put_uint.ensures.same c.in_ok-put_uint.ensures.puts)
    (subst (λ t. Writes (twig_spelling t ++ twigs_spelling h.trail) c.put_uint.new.self c.write_twigs.new.to c.write_twigs.result) twig
    (rw (← c.as_slice.ensures.items) (writes_then _ _ _ _ _ _ _ c.in_ok-write_twig.ensures c.write_twigs.ensures))))
