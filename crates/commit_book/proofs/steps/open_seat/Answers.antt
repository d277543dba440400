use Rattle.std.proofs.Common.{arith}
use Rattle.commit_book.proofs.Moves.{opens}
use Rattle.commit_book.proofs.steps.open_seat.Goals as goal

pub split_seat-requires : goal.split_seat-requires
split_seat-requires c = (c.requires.here, omega (arith, c.requires.one_word), opens _ _)
