-- The nodes of subtrees with given values, and their bytes.
use Rattle.std.specs.Prelude.{◌≡◌, ℕ, List, Option, Some, map, option_map, sum_by}
use Rattle.flat_tree.specs.Subtrees.{Subtree}
use Rattle.merkle_nodes.specs.declared.node.Node.{Node}
use Rattle.merkle_nodes.specs.Roots.{node_of}
use Rattle.merkle_nodes.specs.Joined.{Values}

-- the node of a subtree, where it has a value
abbrev pub node_in : Values → Subtree → Option Node
node_in values tree = option_map (node_of tree.depth tree.offset) (values tree.depth tree.offset)

-- the nodes are those of the subtrees, in order, and each has its value
abbrev pub AreNodes : Values → List Subtree → List Node → Type 0
AreNodes values trees nodes = map Some nodes ≡ map (node_in values) trees

-- the bytes under some nodes
abbrev pub bytes_under : List Node → ℕ
bytes_under = sum_by (λ (node : Node). node.size)
