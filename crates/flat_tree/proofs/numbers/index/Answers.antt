use Rattle.std.proofs.Common.{◌+◌, ◌*◌, ◌^◌, ◌≤◌, arith}
use Rattle.flat_tree.specs.declared.limits.TheConstants.{MAX_NODE}
use Rattle.flat_tree.proofs.NumberLemmas.{index_fits, number_shl, number_below}
use Rattle.flat_tree.proofs.numbers.index.Goals as goal
use Rattle.flat_tree.proofs.numbers.index.Goals.{Start}

fits : (c : Start) → (2 * c.args.offset + 1) * 2 ^ c.args.depth ≤ MAX_NODE
fits c = index_fits c.args.depth c.args.offset c.requires.depth c.requires.offset

pub overflow_sub-result : goal.overflow_sub-result
overflow_sub-result c = omega (arith, fits c, number_shl c.args.depth c.args.offset)

pub returns-clause-number : goal.returns-clause-number
returns-clause-number c = omega (arith, fits c, number_shl c.args.depth c.args.offset)

pub returns-clause-below : goal.returns-clause-below
returns-clause-below c = omega (arith, fits c, number_shl c.args.depth c.args.offset, number_below c.args.depth c.args.offset)

pub returns-clause-fits : goal.returns-clause-fits
returns-clause-fits c = omega (arith, fits c, number_shl c.args.depth c.args.offset)
