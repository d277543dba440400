use Rattle.std.proofs.Common.{arith}
use Rattle.commit_book.proofs.Moves.{leaves}
use Rattle.commit_book.proofs.steps.leave.Goals as goal

pub split_seat-requires : goal.split_seat-requires
split_seat-requires c = (c.requires.here, omega (arith, c.requires.one_word), leaves _ _ c.requires.keeps)
