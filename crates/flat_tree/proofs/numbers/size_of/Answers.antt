use Rattle.std.proofs.Common.{arith}
use Rattle.std.proofs.lemmas.Nat.{pow_pos}
use Rattle.flat_tree.proofs.NumberLemmas.{shl_one, reach_below}
use Rattle.flat_tree.proofs.numbers.size_of.Goals as goal

pub returns-clause-size : goal.returns-clause-size
returns-clause-size c d o is = shl_one c.depth.result d (c.depth.ensures.depth d o is) c.depth.ensures.fits

pub returns-clause-some : goal.returns-clause-some
returns-clause-some c =
    let some = c.depth.ensures.some in
    let size = shl_one c.depth.result c.depth.result (c.depth.ensures.depth c.depth.result some.0 some.1) c.depth.ensures.fits in
    omega (arith, size, pow_pos c.depth.result)

pub returns-clause-fits : goal.returns-clause-fits
returns-clause-fits c =
    let some = c.depth.ensures.some in
    let size = shl_one c.depth.result c.depth.result (c.depth.ensures.depth c.depth.result some.0 some.1) c.depth.ensures.fits in
    omega (arith, size, some.1, reach_below c.depth.result some.0)
