use Rattle.std.proofs.Common.{None, ◌∙◌, ap, arith, refl}
use Rattle.merkle_nodes.specs.Roots.{root_hash_of}
use Rattle.node_set.specs.Nodes.{values_of, with_nodes}
use Rattle.core_state.proofs.ExtendLemmas.{grown_kept, taken_kept, taken_extends, held_below}
use Rattle.core_state.proofs.stored.MemState.extend.Goals as goal

pub invariant_of-self : goal.invariant_of-self
invariant_of-self g c = grown_kept _ _ (record {
  head = refl;
  roots = refl;
  root = refl;
  more = c.make_room-room.ensures.more;
  held = c.make_room-room.ensures.held;
  values = c.make_room-room.ensures.values;
  blocks = c.in-Err.ensures.err;
}) c.self.invariant

pub invariant_of-self-2 : goal.invariant_of-self-2
invariant_of-self-2 g c = taken_kept _ _ _ c.self.invariant c.self.view_is c.args.blocks.now c.args.batch.now c.requires.batch _ _ (record {
  fork = refl;
  end = c.length-end.ensures.length;
  signature = c.signature_of.ensures.wide;
  roots = c.copy-self-inside.ensures ∙ c.roots.ensures.roots;
  root = c.root_hash-self-inside.ensures ∙ ap root_hash_of c.roots-2.ensures.roots;
  places = omega (arith, c.in-Ok.ensures.places, c.set_range.ensures.places);
  was_held = c.make_room-room.ensures.held;
  held = c.set_range.ensures.range;
  was_stored = c.make_room-room.ensures.values;
  values = c.insert_all.ensures.values ∙ ap (with_nodes (values_of c.make_room-room.new.nodes)) c.nodes.ensures.nodes;
  blocks = c.in-Ok.ensures.ok;
})

pub returns-clause-ok : goal.returns-clause-ok
returns-clause-ok g c = taken_extends _ _ (record { parts = _; roots = _; root = _; room = 0; spare = None }) c.self.invariant c.self.view_is c.args.blocks.now c.args.batch.now c.requires.batch _ _ (record {
  fork = refl;
  end = c.length-end.ensures.length;
  signature = c.signature_of.ensures.wide;
  roots = c.copy-self-inside.ensures ∙ c.roots.ensures.roots;
  root = c.root_hash-self-inside.ensures ∙ ap root_hash_of c.roots-2.ensures.roots;
  places = omega (arith, c.in-Ok.ensures.places, c.set_range.ensures.places);
  was_held = c.make_room-room.ensures.held;
  held = c.set_range.ensures.range;
  was_stored = c.make_room-room.ensures.values;
  values = c.insert_all.ensures.values ∙ ap (with_nodes (values_of c.make_room-room.new.nodes)) c.nodes.ensures.nodes;
  blocks = c.in-Ok.ensures.ok;
}) (g.A.Verifier.accepts c.args.auth.now) _ (c.root_hash-self-inside.ensures ∙ ap root_hash_of c.roots-2.ensures.roots) c.signature_of.ensures.accepted

pub returns-clause-below : goal.returns-clause-below
returns-clause-below g c = held_below _ _ c.self.invariant c.self.view_is
