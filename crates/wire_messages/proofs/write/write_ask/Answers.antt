use Rattle.compact_enc.proofs.Writing.{writes_put, writes_then}
use Rattle.proof_form.specs.Requests.{request_spelling}
use Rattle.wire_messages.proofs.write.write_ask.Goals as goal

pub returns : goal.returns
returns c =
    writes_then _ _ _ _ _ _ _ c.in_ok-write_number.ensures
    (writes_put (request_spelling c.args.request.now) c.write_number.new.to c.put_request.new.to c.put_request.result
    c.put_request.ensures.same c.put_request.ensures.puts)
