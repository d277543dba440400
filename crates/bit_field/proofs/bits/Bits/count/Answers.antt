use Rattle.std.proofs.Common.{◌∙◌}
use Rattle.bit_field.proofs.Views.{StandFor, stand}
use Rattle.bit_field.proofs.WordCounts.{count_of_set}
use Rattle.bit_field.proofs.bits.Bits.count.Goals as goal
use Rattle.bit_field.proofs.bits.Bits.count.Goals.{After-deref}

stands : (c : After-deref) → StandFor c.deref.result.now c.self.inside.count c.args.self.now
stands c = stand _ _ _ _ c.self.invariant c.self.view_is c.deref.ensures.value

pub count_places-requires : goal.count_places-requires
count_places-requires c = record { fits = (stands (goal.at.count_places-requires c).After-deref).fits }

pub returns : goal.returns
returns c = c.count_places.ensures ∙ count_of_set _ _ _ (stands (goal.at.returns c).After-deref)
