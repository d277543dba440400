use Rattle.std.proofs.Common.{[], ◌∷◌, Ok, subst}
use Rattle.compact_enc.specs.Written.{Writes}
use Rattle.compact_enc.proofs.Writing.{writes_put, writes_then}
use Rattle.wire_messages.specs.Messages.{view, fields_spelling}
use Rattle.wire_messages.proofs.write.write_message.Goals as goal

pub returns : goal.returns
returns c =
    let fields = fields_spelling (view c.args.message.now) in
    let byte = c.type_byte.result ∷ [] in
    let done = c.in_ok-put_fixed.field-0 in
    subst (λ kind. Writes (kind ∷ fields) c.args.to.now c.write_fields.new.to c.write_fields.result) c.type_byte.ensures
    (writes_then byte fields _ _ _ done _
    (writes_put byte c.args.to.now c.put_fixed.new.self (Ok done) c.in_ok-put_fixed.ensures.same c.in_ok-put_fixed.ensures.puts) c.write_fields.ensures)
