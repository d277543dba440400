use Rattle.node_set.proofs.UpgradeLemmas.{upgrade_sound, upgrade_whole}
use Rattle.node_set.proofs.laws.upgrade_stays_whole.Goals as goal

pub returns-clause-sound : goal.returns-clause-sound
returns-clause-sound c = upgrade_sound

pub returns-clause-whole : goal.returns-clause-whole
returns-clause-whole c = λ accepts m to parts signature whole. upgrade_whole accepts m to parts signature whole.sound whole.limits.fork
