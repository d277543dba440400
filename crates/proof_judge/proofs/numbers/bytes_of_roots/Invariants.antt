use Rattle.std.proofs.Common.{◌≡◌, ◌≤◌, ◌*◌, take}
use Rattle.flat_tree.specs.declared.limits.TheConstants.{MAX_CORE_BYTES}
use Rattle.node_set.specs.Contents.{bytes_under}
use Rattle.proof_judge.proofs.numbers.bytes_of_roots.Given as goal

abbrev pub invariant-loop-node : goal.invariant-loop-node
invariant-loop-node l = (l.bytes ≡ bytes_under (take l.node-index l.nodes)) × (l.bytes ≤ l.node-index * MAX_CORE_BYTES)
