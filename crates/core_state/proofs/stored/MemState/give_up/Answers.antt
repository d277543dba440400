use Rattle.std.proofs.Common.{None, refl}
use Rattle.core_state.proofs.ClearLemmas.{left_kept, left_clears}
use Rattle.core_state.proofs.stored.MemState.give_up.Goals as goal

pub invariant_of-self : goal.invariant_of-self
invariant_of-self c = left_kept _ _ _ c.self.invariant c.self.view_is c.args.from c.args.to (record {
  head = refl;
  roots_stay = refl;
  root_stays = refl;
  places = c.clear_range.ensures.places;
  held = c.clear_range.ensures.range;
  values = c.prune.ensures.values;
  count = c.empty_range.ensures.count;
  blocks = c.empty_range.ensures.outside;
})

pub returns : goal.returns
returns c = left_clears _ _ (record { parts = _; roots = _; root = _; room = 0; spare = None }) c.self.invariant c.self.view_is c.args.from c.args.to (record {
  head = refl;
  roots_stay = refl;
  root_stays = refl;
  places = c.clear_range.ensures.places;
  held = c.clear_range.ensures.range;
  values = c.prune.ensures.values;
  count = c.empty_range.ensures.count;
  blocks = c.empty_range.ensures.outside;
})
