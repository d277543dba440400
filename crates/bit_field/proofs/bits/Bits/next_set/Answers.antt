use Rattle.std.proofs.Common.{true, arith}
use Rattle.bit_field.proofs.Views.{StandFor, stand, finds_in_set}
use Rattle.bit_field.proofs.bits.Bits.next_set.Goals as goal
use Rattle.bit_field.proofs.bits.Bits.next_set.Goals.{After-deref}

stands : (c : After-deref) → StandFor c.deref.result.now c.self.inside.count c.args.self.now
stands c = stand _ _ _ _ c.self.invariant c.self.view_is c.deref.ensures.value

pub next_place-requires : goal.next_place-requires
next_place-requires c =
    let here = stands (goal.at.next_place-requires c).After-deref in
    record { ordered = omega arith; within = here.room; fits = here.fits }

pub returns : goal.returns
returns c = finds_in_set _ _ _ _ true c.next_place.result (stands (goal.at.returns c).After-deref) c.next_place.ensures
