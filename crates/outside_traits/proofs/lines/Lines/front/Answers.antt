use Rattle.std.proofs.Common.{◌≤◌, length, slice_range, refl, arith, ◌∙◌}
use Rattle.std.proofs.lemmas.List.{take_all, drop_all}
use Rattle.outside_traits.proofs.Lying.{wants_more, takes_fed_line, takes_last_line, is_too_long, slice_range-none}
use Rattle.outside_traits.proofs.lines.Lines.front.Goals as goal

pub returns-then-at-self-clause-answer : goal.returns-then-at-self-clause-answer
returns-then-at-self-clause-answer c =
    rw (← c.self.view_is) (is_too_long _ _ c.line_end-at.result c.line_end-at.ensures c.if-at-self.true (slice_range-none c.self.inside.place.items
    c.self.inside.start) refl)

pub returns-then-at-size-clause-answer : goal.returns-then-at-size-clause-answer
returns-then-at-size-clause-answer c =
    rw (← c.self.view_is) (takes_fed_line _ c.give.new.self c.line_end-at.result (rw c.give.ensures.max c.line_end-at.ensures)
    (omega (arith, c.give.ensures.max, c.if-at-self.false))
    (omega (arith, c.ahead_len-size.ensures, c.if-at-size.true)) c.give.ensures.line c.give.ensures.ahead)

pub returns-then-not-self-clause-more : goal.returns-then-not-self-clause-more
returns-then-not-self-clause-more c = λ _. wants_more _ c.line_end-at.result c.line_end-at.ensures c.if-at-self.false
    (omega (arith, c.ahead_len-size.ensures, c.if-at-size.false)) c.if-not-self.true

pub returns-clause-answer : goal.returns-clause-answer
returns-clause-answer c =
    let all : length (slice_range c.self.inside.place.items c.self.inside.from c.self.inside.to) ≤ c.ahead_len-size.result = omega (
      arith,
      c.ahead_len-size.ensures,
    ) in
    rw (← c.self.view_is) (takes_last_line _ c.give-2.new.self c.line_end-at.result (rw c.give-2.ensures.max c.line_end-at.ensures)
    (omega (arith, c.give-2.ensures.max, c.if-at-self.false)) (omega (arith, c.ahead_len-size.ensures, c.if-at-size.false))
    (omega (arith, c.ahead_len-size.ensures, c.if-size-eq0.false)) (c.give-2.ensures.line ∙ take_all _ _ all) (c.give-2.ensures.ahead ∙ drop_all _ _ all)
    (c.give-2.ensures.ended ∙ c.if-not-self.false))
