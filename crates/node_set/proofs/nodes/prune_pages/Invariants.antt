use Rattle.bit_field.specs.Places.{has}
use Rattle.node_set.proofs.PrunedPages.{ArePruned}
use Rattle.node_set.proofs.nodes.prune_pages.Given as goal

-- the pages so far are pruned
abbrev pub invariant-loop-at : goal.invariant-loop-at
invariant-loop-at l = ArePruned l.length (has l.held) l.at l.fn.pages l.pages
