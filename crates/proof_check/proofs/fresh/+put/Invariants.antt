use Rattle.std.proofs.Common.{length}
use Rattle.proof_check.proofs.fresh.+put.Given as goal

abbrev pub decreases-put : goal.decreases-put
decreases-put l = length l.fresh.now
