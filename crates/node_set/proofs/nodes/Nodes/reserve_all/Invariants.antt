use Rattle.std.proofs.Common.{◌≡◌, ℕ, true, take}
use Rattle.std.specs.List.{AllByRecursion}
use Rattle.merkle_nodes.specs.declared.node.Node.{Node}
use Rattle.node_set.specs.Nodes.{has_place, values_of}
use Rattle.node_set.proofs.nodes.Nodes.reserve_all.Given as goal

-- the nodes so far have places, and what was there is there
abbrev pub invariant-loop-node : goal.invariant-loop-node
invariant-loop-node l =
    AllByRecursion (λ (node : Node). has_place l.self node.index ≡ true) (take l.node-index l.nodes)
    × ((number : ℕ) → has_place l.fn.self number ≡ true → has_place l.self number ≡ true)
    × (values_of l.self ≡ values_of l.fn.self)
