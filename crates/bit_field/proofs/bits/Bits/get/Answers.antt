use Rattle.std.proofs.Common.{ℕ, Bool, ◌∙◌, sym, ap, arith}
use Rattle.bit_field.proofs.Views.{StandFor, stand}
use Rattle.bit_field.proofs.bits.Bits.get.Goals as goal
use Rattle.bit_field.proofs.bits.Bits.get.Goals.{After-deref}

stands : (c : After-deref) → StandFor c.deref.result.now c.self.inside.count c.args.self.now
stands c = stand _ _ _ _ c.self.invariant c.self.view_is c.deref.ensures.value

pub bit-requires : goal.bit-requires
bit-requires c =
    let here = stands (goal.at.bit-requires c).After-deref in
    record { within = omega arith }

pub returns : goal.returns
returns c = c.bit.ensures ∙ sym (ap (λ (bits : ℕ → Bool). bits c.args.at) (stands (goal.at.returns c).After-deref).same)
