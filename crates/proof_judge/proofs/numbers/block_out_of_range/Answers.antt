use Rattle.std.proofs.Common.{sym, arith}
use Rattle.flat_tree.proofs.NumberLemmas.{leaf}
use Rattle.proof_check.specs.Parts.{part_of_block}
use Rattle.proof_check.specs.Meets.{seen}
use Rattle.proof_judge.proofs.Ranges.{past_end, below_end}
use Rattle.proof_judge.proofs.numbers.block_out_of_range.Goals as goal

pub returns-then-block-end : goal.returns-then-block-end
returns-then-block-end c =
    let own = seen c.in-Some.block in
    rw c.in-Some.is (sym (past_end _ (part_of_block own) (omega (arith, leaf own.index, c.if-block-end.true))))

pub returns : goal.returns
returns c =
    let own = seen c.in-Some.block in
    rw c.in-Some.is (sym (below_end _ (part_of_block own) (omega (arith, leaf own.index, c.if-block-end.false))))
