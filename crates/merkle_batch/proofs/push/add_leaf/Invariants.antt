use Rattle.merkle_batch.proofs.Climb.{IsUnderWay}
use Rattle.merkle_batch.proofs.push.add_leaf.Given as goal

abbrev pub invariant-loop : goal.invariant-loop
invariant-loop l = IsUnderWay l.block l.counter l.fn.leaf l.node l.fn.roots l.roots l.fn.nodes l.nodes
