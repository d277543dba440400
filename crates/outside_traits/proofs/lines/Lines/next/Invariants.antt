use Rattle.outside_traits.proofs.Reading.{GoesOnReading, still_wanted}
use Rattle.outside_traits.proofs.lines.Lines.next.Given as goal

abbrev pub invariant-loop-answer : goal.invariant-loop-answer
invariant-loop-answer g l = GoesOnReading (g.S.Source.source l.fn.source) (g.S.Source.source l.source) l.fn.self l.self

abbrev pub decreases-loop-answer : goal.decreases-loop-answer
decreases-loop-answer g l = still_wanted l.self
