use Rattle.node_set.proofs.OffsetTruth.{offsets_are_of}
use Rattle.node_set.proofs.laws.offsets_are_of_the_log.Goals as goal

pub returns : goal.returns
returns c = offsets_are_of
