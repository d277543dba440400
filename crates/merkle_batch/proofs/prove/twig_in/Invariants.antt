use Rattle.std.proofs.Common.{◌≡◌, ℕ, ◌<◌, get_or}
use Rattle.merkle_nodes.specs.declared.node.Node.{Node}
use Rattle.merkle_batch.proofs.prove.twig_in.Given as goal

-- the nodes so far have other numbers
abbrev pub invariant-loop-node : goal.invariant-loop-node
invariant-loop-node l = (k : ℕ) → (d : Node) → k < l.node-index → (get_or l.nodes k d).index ≡ l.index → ⊥
