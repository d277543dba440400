use Rattle.std.proofs.Common.{vec_len, arith}
use Rattle.bit_field.proofs.Kept.{IsGrown, grown_kept, grown_places, grown_has}
use Rattle.bit_field.proofs.bits.Bits.grow.Goals as goal
use Rattle.bit_field.proofs.bits.Bits.grow.Goals.{In-Ok}

grown : (c : In-Ok)
    → IsGrown c.self.inside.words.items c.resize.new.self.items c.self.inside.count c.args.count c.words_of.result
    (vec_len c.self.inside.words) c.args.self.now
grown c = record {
  kept = c.self.invariant;
  view = c.self.view_is;
  ordered = c.requires.more;
  within = c.requires.within;
  wants = c.words_of.ensures;
  long = omega (arith, c.self.inside.words.ok.0);
  items = c.in-Ok.ensures.items;
}

pub invariant_of-self : goal.invariant_of-self
invariant_of-self c = grown_kept _ _ _ _ _ _ _ (grown (goal.at.invariant_of-self c).In-Ok)

pub returns-in-Ok-clause-places : goal.returns-in-Ok-clause-places
returns-in-Ok-clause-places c = grown_places _ _ _ _ _ _ _ (grown (goal.at.returns-in-Ok-clause-places c).In-Ok)

pub returns-in-Ok-clause-same : goal.returns-in-Ok-clause-same
returns-in-Ok-clause-same c = grown_has _ _ _ _ _ _ _ (grown (goal.at.returns-in-Ok-clause-same c).In-Ok)
