use Rattle.core_snap.proofs.SameLemmas.{same_read}
use Rattle.core_snap.proofs.laws.snapshots_stay.Goals as goal

pub returns : goal.returns
returns c = same_read
