use Rattle.std.proofs.Common.{◌≡◌, true, List, take}
use Rattle.flat_tree.specs.Subtrees.{Subtree, numbers_of}
use Rattle.proof_make.specs.Offers.{has_nodes}
use Rattle.proof_offer.proofs.twigs.are_stored.Given as goal

-- those so far are to be stored
abbrev pub invariant-loop-at : goal.invariant-loop-at
invariant-loop-at g l = (trees : List Subtree) → l.numbers ≡ numbers_of trees
    → has_nodes (g.V.View.view l.view).source.content (take l.at trees) ≡ true
