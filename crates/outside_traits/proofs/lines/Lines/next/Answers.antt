use Rattle.std.proofs.Common.{refl, sym, ◌∙◌}
use Rattle.outside_traits.proofs.Reading.{GoesOnReading-more}
use Rattle.outside_traits.proofs.lines.Lines.next.Goals as goal

pub loop-answer-preserved : goal.loop-answer-preserved
loop-answer-preserved g c =
    GoesOnReading-more _ _ _ _ c.loop-answer.self c.front.new.self c.refill.new.self c.refill.result c.loop-answer.invariant
    (record {
      ahead = c.in_default.ensures.ahead refl;
      ended = c.front.ensures.ended;
      max = c.front.ensures.max;
    }) (c.in_default.ensures.more refl) c.refill.ensures.more (sym c.is_err.ensures.value ∙ c.if-is_err.false)
