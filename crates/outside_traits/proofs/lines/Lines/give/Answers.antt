use Rattle.std.proofs.Common.{◌≡◌, ◌-◌, sym, ap, ◌∙◌, arith, length, drop}
use Rattle.outside_traits.proofs.Lying.{slice_range-drop, length-slice_range}
use Rattle.outside_traits.proofs.lines.Lines.give.Goals as goal

pub returns-clause-ahead : goal.returns-clause-ahead
returns-clause-ahead c =
    let fields = c.self.inside in
    let size : length c.args.self.now.ahead ≡ fields.to - fields.from = ap (λ v. length v.ahead) (sym c.self.view_is)
    ∙ length-slice_range fields.place.items fields.from fields.to c.self.invariant.ahead_within in
    slice_range-drop fields.place.items fields.from c.args.taken fields.to (omega (arith, size, c.requires.within, c.self.invariant.ahead))
    ∙ ap (λ v. drop c.args.taken v.ahead) c.self.view_is
