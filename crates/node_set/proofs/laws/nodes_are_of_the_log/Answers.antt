use Rattle.node_set.proofs.SizeTruth.{nodes_are_of}
use Rattle.node_set.proofs.laws.nodes_are_of_the_log.Goals as goal

pub returns : goal.returns
returns c = nodes_are_of
