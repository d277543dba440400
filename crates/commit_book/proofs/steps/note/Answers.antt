use Rattle.std.proofs.Common.{arith}
use Rattle.commit_book.proofs.Moves.{notes}
use Rattle.commit_book.proofs.steps.note.Goals as goal

pub load-requires : goal.load-requires
load-requires c = (c.requires.here, omega (arith, c.requires.one_word), notes _ _ _ _)
