use Rattle.std.proofs.Common.{◌≡◌, ◌∙◌, arith}
use Rattle.flat_tree.specs.Subtrees.{number}
use Rattle.flat_tree.proofs.NumberLemmas.{trailing_ones-number, depth_some, depth_below}
use Rattle.flat_tree.proofs.numbers.depth.Goals as goal

pub returns-clause-depth : goal.returns-clause-depth
returns-clause-depth c d o is = c.trailing_ones.ensures ∙ trailing_ones-number c.args.node d o (omega arith) is

pub returns-clause-some : goal.returns-clause-some
returns-clause-some c = depth_some _ _ (omega arith) c.trailing_ones.ensures

pub returns-clause-fits : goal.returns-clause-fits
returns-clause-fits c =
    let some = depth_some c.args.node _ (omega arith) c.trailing_ones.ensures in
    let is : c.args.node ≡ number c.trailing_ones.result some.0 = some.1 in
    omega (arith, depth_below c.trailing_ones.result some.0 62, is)
