use Rattle.std.proofs.Common.{ℕ, Bool, true, subst, sym, arith}
use Rattle.bit_field.specs.Places.{Finds}
use Rattle.bit_field.proofs.Views.{StandFor, stand}
use Rattle.bit_field.proofs.bits.Bits.first_in.Goals as goal
use Rattle.bit_field.proofs.bits.Bits.first_in.Goals.{After-deref}

stands : (c : After-deref) → StandFor c.deref.result.now c.self.inside.count c.args.self.now
stands c = stand _ _ _ _ c.self.invariant c.self.view_is c.deref.ensures.value

pub next_place-requires : goal.next_place-requires
next_place-requires c =
    let here = stands (goal.at.next_place-requires c).After-deref in
    record { ordered = c.requires.ordered; within = omega (arith, c.requires.within, here.places, here.room); fits = here.fits }

pub returns : goal.returns
returns c =
    subst (λ (bits : ℕ → Bool). Finds true c.args.from c.args.to bits c.next_place.result)
    (sym (stands (goal.at.returns c).After-deref).same) c.next_place.ensures
