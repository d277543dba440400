use Rattle.bit_field.specs.Places.{has}
use Rattle.node_set.proofs.PrunedPages.{all_pruned}
use Rattle.node_set.proofs.nodes.prune_pages.Goals as goal

pub returns-clause-values : goal.returns-clause-values
returns-clause-values c =
    all_pruned c.args.length (has c.args.held.now) c.loop-at.at c.args.pages.now c.loop-at.pages c.loop-at-test.false c.loop-at.invariant
