use Rattle.node_set.proofs.KeepsWhole.{truncate_sound, truncate_whole}
use Rattle.node_set.proofs.laws.truncate_stays_whole.Goals as goal

pub returns-clause-sound : goal.returns-clause-sound
returns-clause-sound c = truncate_sound

pub returns-clause-whole : goal.returns-clause-whole
returns-clause-whole c = truncate_whole
