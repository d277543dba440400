use Rattle.flat_tree.specs.Covers.{cover_of}
use Rattle.flat_tree.proofs.CoverLemmas.{tile-cover}
use Rattle.root_stack.proofs.BecomesFull.{made-exact, made-tiling}
use Rattle.root_stack.proofs.CoverParts.{made-cover}
use Rattle.root_stack.proofs.laws.what_becomes_full.Goals as goal

pub returns-clause-exact : goal.returns-clause-exact
returns-clause-exact c = made-exact

pub returns-clause-tiling : goal.returns-clause-tiling
returns-clause-tiling c = made-tiling

pub returns-clause-cover : goal.returns-clause-cover
returns-clause-cover c from to depth offset ordered few =
    (made-cover from to depth offset few, made-tiling (cover_of from to) from to depth offset (tile-cover from to ordered) few)
