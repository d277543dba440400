use Rattle.compact_enc.proofs.Writing.{writes_put, writes_then}
use Rattle.proof_form.specs.Proofs.{proof_spelling, view as proof_view}
use Rattle.wire_messages.proofs.write.write_answer.Goals as goal

pub returns : goal.returns
returns c =
    writes_then _ _ _ _ _ _ _ c.in_ok-write_number.ensures
    (writes_put (proof_spelling (proof_view c.args.proof.now)) c.write_number.new.to c.put_proof.new.to c.put_proof.result
    c.put_proof.ensures.same c.put_proof.ensures.puts)
