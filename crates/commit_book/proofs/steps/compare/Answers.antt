use Rattle.std.proofs.Common.{arith}
use Rattle.commit_book.proofs.Moves.{compares}
use Rattle.commit_book.proofs.steps.compare.Goals as goal

pub load-requires : goal.load-requires
load-requires c = (c.requires.here, omega (arith, c.requires.one_word), compares _ _ _ _ c.requires.keeps)
