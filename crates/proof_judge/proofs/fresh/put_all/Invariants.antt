use Rattle.std.proofs.Common.{◌≡◌, ◌++◌, take, vec_capacity}
use Rattle.proof_judge.proofs.fresh.put_all.Given as goal

abbrev pub invariant-loop-node : goal.invariant-loop-node
invariant-loop-node l = (l.nodes.items ≡ l.fn.nodes.items ++ take l.node-index l.more) × (vec_capacity l.nodes ≡ vec_capacity l.fn.nodes)
