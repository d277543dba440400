use Rattle.snap_reads.proofs.OneBlock.{one_block}
use Rattle.snap_reads.proofs.laws.one_block_of_a_snapshot.Goals as goal

pub returns : goal.returns
returns c snap index one other is is_too = one_block snap index one other is is_too
