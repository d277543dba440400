-- What opening a core's disk has in hand, and what each entry of the change file makes of it.
use Rattle.std.specs.Prelude.{ℕ, Bool, List, [], ◌∷◌, None}
use Rattle.commit_book.specs.History.{Summary, changed}
use Rattle.merkle_nodes.specs.declared.node.Node.{Node}
use Rattle.merkle_nodes.specs.declared.roots.Head.{Head}
use Rattle.merkle_nodes.specs.Joined.{Values}
use Rattle.merkle_nodes.specs.Roots.{root_hash_of}
use Rattle.oplog_form.specs.declared.entry.Entry.{Entry}
use Rattle.oplog_form.specs.declared.header.Header.{Header}
use Rattle.node_set.specs.Contents.{roots_at}
use Rattle.node_set.specs.Nodes.{with_nodes}

-- a head, its roots, which blocks are held, and the nodes that were read; of these only those count that are to be stored
pub record Opened : Type 0 where
  pub head : Head
  pub roots : List Node
  pub held : ℕ → Bool
  pub nodes : Values

-- what a header tells, with the held blocks of its copy of the bits and the nodes of the tree area
abbrev pub start_of : Header → (ℕ → Bool) → Values → Opened
start_of header held nodes = record { head = header.head; roots = header.roots; held = held; nodes = nodes }

-- the same in short
abbrev pub short_of : Opened → Summary
short_of o = record { fork = o.head.fork; length = o.head.length; root = root_hash_of o.roots; held = o.held }

-- the values of these nodes alone
abbrev pub values_in : List Node → Values
values_in nodes = with_nodes (λ depth offset. None) nodes

-- the roots before, and an entry's records over them
abbrev pub known_after : Opened → Entry → Values
known_after o e = with_nodes (values_in o.roots) e.records

-- after an entry: its head, the roots of its length, the held blocks by its commit, and its records over the nodes
abbrev pub entry_after : Opened → Entry → Opened
entry_after o e = record {
  head = e.head;
  roots = roots_at (known_after o e) e.head.length;
  held = (changed e.commit (short_of o)).held;
  nodes = with_nodes o.nodes e.records;
}

-- after some entries
abbrev pub replayed : Opened → List Entry → Opened
replayed o [] = o
replayed o (e ∷ es) = replayed (entry_after o e) es
