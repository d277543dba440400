-- Nodes by their numbers: what is seen of a table of them, and what puts some in.
use Rattle.std.specs.Prelude.{ℕ, Bool, List, [], ◌∷◌, ◌/◌, ◌%◌, Option, None, Some, length, slice_index_or, nat_eq, nat_lt, if◌then◌else◌}
use Rattle.flat_tree.specs.Subtrees.{number}
use Rattle.merkle_nodes.specs.declared.node.Node.{Node}
use Rattle.merkle_nodes.specs.declared.node.Twig.{Twig}
use Rattle.merkle_nodes.specs.Roots.{twig_of}
use Rattle.merkle_nodes.specs.Joined.{Values}
use Rattle.node_set.specs.declared.page.TheConstants.{PAGE_NODES}

-- sizes and hashes in pages of PAGE_NODES numbers each; a page may have fewer places, or none
pub record NodePages : Type 0 where
  pub pages : List (List (Option Twig))

-- the nodes in these pages
abbrev pub nodes_in : List (List (Option Twig)) → NodePages
nodes_in pages = record { pages = pages }

-- the page that a number is in
abbrev pub page_at : NodePages → ℕ → List (Option Twig)
page_at nodes number = slice_index_or nodes.pages (number / PAGE_NODES) []

-- whether there is a place for a number
abbrev pub has_place : NodePages → ℕ → Bool
has_place nodes number = nat_lt (number % PAGE_NODES) (length (page_at nodes number))

-- the size and hash of a number
abbrev pub value_at : NodePages → ℕ → Option Twig
value_at nodes number = slice_index_or (page_at nodes number) (number % PAGE_NODES) None

-- the same by depth and offset
abbrev pub values_of : NodePages → Values
values_of nodes depth offset = value_at nodes (number depth offset)

-- the values, but this node's at its number
abbrev pub with_node : Values → Node → Values
with_node value node depth offset = if nat_eq node.index (number depth offset) then Some (twig_of node) else value depth offset

-- the values, but those of these nodes at their numbers; of two with one number the later counts
unfoldable pub with_nodes : Values → List Node → Values
with_nodes value [] = value
with_nodes value (node ∷ nodes) = with_nodes (with_node value node) nodes
