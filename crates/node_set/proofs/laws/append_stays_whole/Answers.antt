use Rattle.node_set.proofs.AppendLemmas.{append_sound, append_whole}
use Rattle.node_set.proofs.laws.append_stays_whole.Goals as goal

pub returns-clause-sound : goal.returns-clause-sound
returns-clause-sound c = append_sound

pub returns-clause-whole : goal.returns-clause-whole
returns-clause-whole c = λ accepts m more signature whole. append_whole accepts m more signature whole.sound whole.limits.fork
