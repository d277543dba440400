use Rattle.std.proofs.Common.{◌++◌, subst}
use Rattle.compact_enc.specs.Spelling.{uint_spelling}
use Rattle.compact_enc.specs.Written.{Writes}
use Rattle.compact_enc.proofs.Writing.{writes_then}
use Rattle.proof_form.specs.Requests.{asked_spelling, request_spelling}
use Rattle.proof_form.proofs.request.write_request.Goals as goal

pub returns : goal.returns
unfolding request_spelling
returns c =
    let r = c.args.request.now in
    subst (λ n. Writes ((uint_spelling r.fork ++ uint_spelling n) ++ asked_spelling r) c.args.to.now c.write_asked.new.to c.write_asked.result) c.flags.ensures
    (writes_then _ _ _ _ _ _ _ c.in_ok-write_numbers.ensures c.write_asked.ensures)
