use Rattle.outside_traits.proofs.Filling.{HasFilled-step}
use Rattle.outside_traits.proofs.source.fill.Goals as goal

pub loop-at-preserved : goal.loop-at-preserved
loop-at-preserved g c = HasFilled-step _ _ _ c.loop-at.into c.read.new.into _ c.loop-at.at c.in-Ok.count c.loop-at.invariant c.in-Ok.ensures.reads
