use Rattle.std.proofs.Common.{ℕ, subst}
use Rattle.snap_reads.specs.Reads.{GivesRead}
use Rattle.snap_reads.proofs.UnderSnapshot.{snap_shown, snap_lost}
use Rattle.snap_reads.proofs.laws.what_a_snapshot_read_shows.Goals as goal

pub returns-clause-read : goal.returns-clause-read
returns-clause-read c s shows snap index buffer read has gives is =
    snap_shown s shows snap index is.shape is.within buffer read has (subst (λ (l : ℕ). GivesRead s index l buffer read) is.path gives)

pub returns-clause-lost : goal.returns-clause-lost
returns-clause-lost c s shows sound snap index shape within lacks = snap_lost s shows snap index shape within sound lacks
