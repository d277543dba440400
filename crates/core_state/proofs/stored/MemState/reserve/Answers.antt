use Rattle.std.proofs.Common.{subst, Option}
use Rattle.proof_form.specs.Proofs.{Block}
use Rattle.core_state.specs.InMemory.{content_of}
use Rattle.core_state.specs.Reserves.{Suffices}
use Rattle.core_state.proofs.AdmitTurns.{change_reserves}
use Rattle.core_state.proofs.stored.MemState.reserve.Goals as goal

pub returns-in-Ok-make_room-clause-reserved : goal.returns-in-Ok-make_room-clause-reserved
returns-in-Ok-make_room-clause-reserved g c =
    change_reserves (g.A.Verifier.accepts c.args.verifier.now) c.args.prepared.now (content_of c.args.self.now) c.make_room.new.self c.judged.new.change _ c.requires.whole
    c.in-Ok.ensures c.make_room.ensures.content (subst (λ (block : Option Block). Suffices c.make_room.new.self block c.judged.new.change) c.block.ensures c.in-Ok-make_room.ensures.ok)
