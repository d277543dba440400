use Rattle.std.proofs.Common.{sym, subst, ◌∙◌, ap, Option}
use Rattle.proof_form.specs.Proofs.{Block}
use Rattle.node_set.specs.Contents.{Content}
use Rattle.proof_check.specs.Judge.{admitted}
use Rattle.core_state.specs.InMemory.{content_of}
use Rattle.core_state.specs.Reserves.{Suffices}
use Rattle.core_state.specs.Turns.{Brings}
use Rattle.core_state.proofs.AdmitTurns.{brought, unrefused_of, admit_turns, admit_no_memory, reserved_suffices}
use Rattle.core_state.proofs.stored.MemState.admit.Goals as goal

pub returns-in-Err-make_room-clause-turns : goal.returns-in-Err-make_room-clause-turns
returns-in-Err-make_room-clause-turns g c = admit_no_memory _ _ _ _ c.make_room.ensures.content

pub returns-in-Err-make_room-clause-reserved : goal.returns-in-Err-make_room-clause-reserved
returns-in-Err-make_room-clause-reserved g c reserved same =
    let suffices = reserved_suffices (g.A.Verifier.accepts c.args.verifier.now) c.args.prepared.now c.args.self.now c.judged.new.change _ c.requires.whole c.in-Ok.ensures reserved in
    let ok = c.in-Err-make_room.ensures.idle (subst (λ (block : Option Block). Suffices c.args.self.now block c.judged.new.change) (sym c.block.ensures) suffices) in
    cc

pub take_in-requires-clause-brings : goal.take_in-requires-clause-brings
take_in-requires-clause-brings g c =
    subst (λ (m : Content). Brings c.args.prepared.now m c.judged.new.change) (sym c.make_room.ensures.content)
    (brought (g.A.Verifier.accepts c.args.verifier.now) c.args.prepared.now (content_of c.args.self.now) c.judged.new.change _ c.requires.whole c.in-Ok.ensures)

pub returns-clause-turns : goal.returns-clause-turns
returns-clause-turns g c =
    let accepts = g.A.Verifier.accepts c.args.verifier.now in
    let m = content_of c.args.self.now in
    admit_turns accepts c.args.prepared.now m _ c.judged.new.change _ (brought accepts c.args.prepared.now m c.judged.new.change _ c.requires.whole c.in-Ok.ensures)
    (unrefused_of accepts c.args.prepared.now m c.judged.new.change _ c.in-Ok.ensures) c.requires.whole (c.take_in.ensures ∙ ap (admitted c.args.prepared.now) c.make_room.ensures.content) c.receipt.ensures
