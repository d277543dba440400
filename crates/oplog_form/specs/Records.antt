-- What records stand for: nodes on hand, or nodes that are spelled in bytes.
use Rattle.std.specs.Prelude.{List, [], ◌∷◌, Option, None, Some, Ok, Err, IsOk, ⊤}
use Rattle.merkle_nodes.specs.declared.node.Node.{Node}
use Rattle.oplog_form.specs.declared.records.NodeList.{NodeList}
use Rattle.oplog_form.specs.declared.records.NodeList.TheVariants.{OnHand, Spelled}
use Rattle.oplog_form.specs.Form.{Read}
use Rattle.oplog_form.specs.Nodes.{rising_in}

-- what was read, or nothing
abbrev pub nodes_or_none : Read (List Node) → List Node
nodes_or_none (Ok x) = x.0
nodes_or_none (Err bad) = []

-- the nodes of either form
abbrev pub nodes_of : NodeList → List Node
nodes_of (OnHand nodes) = nodes.now
nodes_of (Spelled count least from) = nodes_or_none (rising_in count least from)

-- so many nodes are spelled there
abbrev pub AreThere : NodeList → Type 0
AreThere (OnHand nodes) = ⊤
AreThere (Spelled count least from) = IsOk (rising_in count least from)

-- the first node and the others, where there is one
abbrev pub first_of : List Node → Option (Node × List Node)
first_of [] = None
first_of (node ∷ nodes) = Some (node, nodes)
