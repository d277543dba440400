use Rattle.outside_traits.proofs.LinesSoFar.{Meets-all}
use Rattle.outside_traits.proofs.lines.all_lines_are_met.Goals as goal

pub returns : goal.returns
returns c = Meets-all
