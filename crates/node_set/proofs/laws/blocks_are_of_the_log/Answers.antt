use Rattle.node_set.proofs.SizeTruth.{blocks_are_of}
use Rattle.node_set.proofs.laws.blocks_are_of_the_log.Goals as goal

pub returns : goal.returns
returns c = blocks_are_of
