use Rattle.std.proofs.Common.{◌-◌, length}
use Rattle.outside_traits.proofs.Filling.{HasFilled}
use Rattle.outside_traits.proofs.source.fill.Given as goal

abbrev pub invariant-loop-at : goal.invariant-loop-at
invariant-loop-at g l = HasFilled (g.S.Source.source l.fn.source) (g.S.Source.source l.source) l.into l.at

abbrev pub decreases-loop-at : goal.decreases-loop-at
decreases-loop-at g l = length l.into - l.at
