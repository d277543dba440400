use Rattle.std.proofs.Common.{◌≡◌, ℕ, length}
use Rattle.node_set.specs.Nodes.{nodes_in, page_at}
use Rattle.node_set.proofs.nodes.Nodes.extend.Given as goal

-- so many pages are there, and the further ones are empty
abbrev pub invariant-loop : goal.invariant-loop
invariant-loop l =
    (length l.self-inside.pages.items ≡ l.counter)
    × ((index : ℕ) → page_at (nodes_in l.self-inside.pages.items) index ≡ page_at l.fn.self index)
