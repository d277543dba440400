use Rattle.std.proofs.Common.{sym}
use Rattle.outside_traits.proofs.Lying.{length-slice_range}
use Rattle.outside_traits.proofs.lines.Lines.ahead_len.Goals as goal

pub returns : goal.returns
returns c = rw (← c.self.view_is) (sym (length-slice_range c.self.inside.place.items c.self.inside.from c.self.inside.to c.self.invariant.ahead_within))
