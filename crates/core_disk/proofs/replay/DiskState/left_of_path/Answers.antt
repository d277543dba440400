use Rattle.std.proofs.Common.{arith}
use Rattle.node_set.proofs.OffsetSums.{left_all, left_next}
use Rattle.core_disk.proofs.replay.DiskState.left_of_path.Goals as goal

pub loop-level-preserved : goal.loop-level-preserved
loop-level-preserved c = (
  (λ fit. left_next _ _ _ _ _ _ c.loop-level-test.true (c.loop-level.invariant.0 fit) (c.left_of_node-bytes.ensures.bytes fit)),
  omega (arith, c.loop-level.invariant.1, c.left_of_node-bytes.ensures.most),
)

pub returns-clause-bytes : goal.returns-clause-bytes
returns-clause-bytes c = λ fit. left_all _ _ _ _ _ c.loop-level-test.false (c.loop-level.invariant.0 fit)
