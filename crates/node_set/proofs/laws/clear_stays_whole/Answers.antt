use Rattle.node_set.proofs.KeepsWhole.{clear_roots, clear_sound, clear_whole}
use Rattle.node_set.proofs.laws.clear_stays_whole.Goals as goal

pub returns-clause-roots : goal.returns-clause-roots
returns-clause-roots c = λ m from to sound. clear_roots m from to

pub returns-clause-sound : goal.returns-clause-sound
returns-clause-sound c = clear_sound

pub returns-clause-whole : goal.returns-clause-whole
returns-clause-whole c = clear_whole
