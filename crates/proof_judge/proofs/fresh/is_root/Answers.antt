use Rattle.std.proofs.Common.{refl, arith}
use Rattle.std.proofs.lemmas.Bool.{lt-leb}
use Rattle.flat_tree.specs.Subtrees.{end_block_of}
use Rattle.flat_tree.proofs.NumberLemmas.{number_below}
use Rattle.proof_judge.proofs.fresh.is_root.Goals as goal

pub returns-then-index-length : goal.returns-then-index-length
returns-then-index-length c = λ depth offset is.
    rw (lt-leb (end_block_of depth offset) c.args.length (omega (arith, is, c.if-index-length.true, number_below depth offset))) refl
