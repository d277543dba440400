use Rattle.std.proofs.Common.{◌<◌, ℕ, List, length, Option, None, refl, sym, ap, subst, ◌∙◌}
use Rattle.std.specs.Prelude.{IfSome}
use Rattle.proof_form.specs.Proofs.{Block}
use Rattle.node_set.specs.Nodes.{values_of, with_nodes}
use Rattle.bit_field.specs.Places.{has}
use Rattle.merkle_nodes.specs.Roots.{root_hash_of}
use Rattle.node_set.specs.Contents.{roots}
use Rattle.core_state.specs.InMemory.{Stored, content_of}
use Rattle.core_state.specs.Reserves.{blocks_put, held_put}
use Rattle.core_state.proofs.AdmitLemmas.{places_below, filled_below, put_kept, put_admits}
use Rattle.core_state.proofs.stored.MemState.take_in.Goals as goal

pub put_block-requires-clause-within : goal.put_block-requires-clause-within
put_block-requires-clause-within c =
    subst (λ (block : Option Block). IfSome block (λ (b : Block). b.index < length c.self.inside.held)) (sym c.block.ensures)
    (places_below _ _ c.self.invariant c.self.view_is c.args.prepared.now c.args.change.now c.requires.brings c.requires.room)

pub put_block-requires-clause-there : goal.put_block-requires-clause-there
put_block-requires-clause-there c =
    subst (λ (block : Option Block). IfSome block (λ (b : Block). b.index < length c.fill_up.new.blocks.items)) (sym c.block.ensures)
    (subst (λ (blocks : List (List ℕ)). IfSome c.args.prepared.now.block (λ (b : Block). b.index < length blocks)) (sym c.fill_up.ensures)
    (filled_below _ _ c.self.invariant c.self.view_is c.args.prepared.now c.args.change.now c.requires.brings c.requires.room))

pub root_after-self-inside-requires : goal.root_after-self-inside-requires
root_after-self-inside-requires c = record {
  same = λ none.
      c.self.invariant.root_is ∙ ap root_hash_of (c.self.invariant.root_nodes ∙ ap (λ (s : Stored). roots (content_of s)) c.self.view_is ∙ sym (c.requires.brings.same none));
}

pub put_roots-requires : goal.put_roots-requires
put_roots-requires c = record {
  same = λ none. c.self.invariant.root_nodes ∙ ap (λ (s : Stored). roots (content_of s)) c.self.view_is ∙ sym (c.requires.brings.same none);
}

pub invariant_of-self : goal.invariant_of-self
invariant_of-self c = put_kept _ _ c.self.invariant c.self.view_is c.args.prepared.now c.args.change.now c.requires.brings c.requires.room _ _ (record {
  head_is = refl;
  roots_are = c.put_roots.ensures;
  root_is = c.root_after-self-inside.ensures;
  places_are = c.put_block.ensures.places;
  held_is = λ index. c.put_block.ensures.held index ∙ ap (λ (block : Option Block). held_put (has c.self.inside.held) block index) c.block.ensures;
  were_nodes = refl;
  values_are = c.insert_all.ensures.values ∙ ap (with_nodes (values_of c.self.inside.nodes)) c.as_slice.ensures.items;
  blocks_are = c.put_block.ensures.blocks
      ∙ ap (λ (block : Option Block). blocks_put (has c.self.inside.held) block c.fill_up.new.blocks.items) c.block.ensures
      ∙ ap (blocks_put (has c.self.inside.held) c.args.prepared.now.block) c.fill_up.ensures;
})

pub returns : goal.returns
returns c = put_admits _ _ c.self.invariant c.self.view_is c.args.prepared.now c.args.change.now c.requires.brings c.requires.room
    (record { parts = _; roots = _; root = _; room = 0; spare = None }) _ (record {
      head_is = refl;
      roots_are = c.put_roots.ensures;
      root_is = c.root_after-self-inside.ensures;
      places_are = c.put_block.ensures.places;
      held_is = λ index. c.put_block.ensures.held index ∙ ap (λ (block : Option Block). held_put (has c.self.inside.held) block index) c.block.ensures;
      were_nodes = refl;
      values_are = c.insert_all.ensures.values ∙ ap (with_nodes (values_of c.self.inside.nodes)) c.as_slice.ensures.items;
      blocks_are = c.put_block.ensures.blocks
          ∙ ap (λ (block : Option Block). blocks_put (has c.self.inside.held) block c.fill_up.new.blocks.items) c.block.ensures
          ∙ ap (blocks_put (has c.self.inside.held) c.args.prepared.now.block) c.fill_up.ensures;
    })
