use Rattle.std.proofs.Common.{◌++◌, subst}
use Rattle.compact_enc.specs.Spelling.{uint_spelling}
use Rattle.compact_enc.specs.Written.{Writes}
use Rattle.compact_enc.proofs.Writing.{writes_then}
use Rattle.proof_form.specs.Proofs.{view, parts_spelling, proof_spelling}
use Rattle.proof_form.proofs.proof.write_proof.Goals as goal

pub returns : goal.returns
unfolding proof_spelling
returns c =
    let p = view c.args.proof.now in
    subst (λ n. Writes ((uint_spelling p.fork ++ uint_spelling n) ++ parts_spelling p) c.args.to.now c.write_parts.new.to c.write_parts.result) c.flags.ensures
    (writes_then _ _ _ _ _ _ _ c.in_ok-write_numbers.ensures c.write_parts.ensures)
