use Rattle.core_snap.proofs.FoldLemmas.{siblings_in_order}
use Rattle.snap_reads.proofs.read.join_nodes.Goals as goal

pub parent-requires-else-offset-eq1-clause-siblings : goal.parent-requires-else-offset-eq1-clause-siblings
parent-requires-else-offset-eq1-clause-siblings c = siblings_in_order _ _ c.args.offset c.requires.siblings c.if-offset-eq1.false
