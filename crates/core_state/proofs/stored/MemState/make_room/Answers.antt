use Rattle.std.proofs.Common.{refl, sym, subst}
use Rattle.core_state.specs.InMemory.{Stored}
use Rattle.core_state.specs.Reserves.{Suffices}
use Rattle.proof_form.specs.Proofs.{block_view}
use Rattle.core_state.proofs.ExtendLemmas.{grown_kept}
use Rattle.core_state.proofs.stored.MemState.make_room.Goals as goal

pub invariant_of-self-2 : goal.invariant_of-self-2
invariant_of-self-2 c = grown_kept _ _ (record {
  head = refl;
  roots = refl;
  root = refl;
  more = c.take_room.ensures.more;
  held = c.take_room.ensures.held;
  values = c.take_room.ensures.values;
  blocks = c.take_room.ensures.blocks;
}) c.self.invariant

pub invariant_of-self-in-Err-take_room : goal.invariant_of-self-in-Err-take_room
invariant_of-self-in-Err-take_room c = grown_kept _ _ (record {
  head = refl;
  roots = refl;
  root = refl;
  more = c.take_room.ensures.more;
  held = c.take_room.ensures.held;
  values = c.take_room.ensures.values;
  blocks = c.take_room.ensures.blocks;
}) c.self.invariant

pub returns-in-Err-take_room-clause-idle : goal.returns-in-Err-take_room-clause-idle
returns-in-Err-take_room-clause-idle c suffices =
    let own = subst (λ (s : Stored). Suffices s (block_view c.args.block.now) c.args.change.now) (sym c.self.view_is) suffices in
    c.in-Err-take_room.ensures.idle own.enough_places own.enough_room own.node_places
