use Rattle.std.proofs.Common.{◌≡◌, ℕ, take}
use Rattle.node_set.specs.Nodes.{has_place, values_of, with_nodes}
use Rattle.node_set.proofs.nodes.Nodes.insert_all.Given as goal

-- the nodes so far are in, and the places are those that were there
abbrev pub invariant-loop-node : goal.invariant-loop-node
invariant-loop-node l =
    (values_of l.self ≡ with_nodes (values_of l.fn.self) (take l.node-index l.nodes))
    × ((number : ℕ) → has_place l.self number ≡ has_place l.fn.self number)
