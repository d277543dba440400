use Rattle.std.proofs.Common.{◌∙◌, arith}
use Rattle.std.specs.Vec.{with_items}
use Rattle.std.proofs.lemmas.List.{with_items_is}
use Rattle.bit_field.proofs.Views.{stand}
use Rattle.bit_field.proofs.Kept.{IsWritten, written_kept, written_places, written_range}
use Rattle.bit_field.proofs.bits.Bits.set_to.Goals as goal
use Rattle.bit_field.proofs.bits.Bits.set_to.Goals.{After-set_places}

written : (c : After-set_places)
    → IsWritten c.self.inside.words.items c.deref_mut.result.now c.set_places.new.words
    (with_items c.self.inside.words c.set_places.new.words).items c.self.inside.count c.args.from c.args.to c.args.bit c.args.self.now
written c = record {
  kept = c.self.invariant;
  view = c.self.view_is;
  lent = c.deref_mut.ensures.value;
  long = c.set_places.auto.words;
  within = c.requires.within;
  sets = c.set_places.ensures;
  items = with_items_is c.self.inside.words c.set_places.new.words (c.set_places.auto.words ∙ c.deref_mut.ensures.len);
}

pub set_places-requires-clause-within : goal.set_places-requires-clause-within
set_places-requires-clause-within c =
    let stands = stand _ _ _ _ c.self.invariant c.self.view_is c.deref_mut.ensures.value in
    omega arith

pub invariant_of-self : goal.invariant_of-self
invariant_of-self c = written_kept _ _ _ _ _ _ _ _ _ (written (goal.at.invariant_of-self c).After-set_places)

pub returns-clause-places : goal.returns-clause-places
returns-clause-places c = written_places _ _ _ _ _ _ _ _ _ (written (goal.at.returns-clause-places c).After-set_places)

pub returns-clause-range : goal.returns-clause-range
returns-clause-range c = written_range _ _ _ _ _ _ _ _ _ (written (goal.at.returns-clause-range c).After-set_places)
