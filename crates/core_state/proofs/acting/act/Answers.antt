use Rattle.core_state.proofs.Truths.{whole_tells}
use Rattle.core_state.proofs.acting.act.Goals as goal

pub returns-in-Make-clause-sound : goal.returns-in-Make-clause-sound
returns-in-Make-clause-sound g c = whole_tells (g.C.Core.state c.make.new.self) c.make.ensures.acts.whole
