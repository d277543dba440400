use Rattle.std.proofs.Common.{arith}
use Rattle.commit_book.proofs.Moves.{hosts}
use Rattle.commit_book.proofs.steps.host.Goals as goal

pub join_seat-requires : goal.join_seat-requires
join_seat-requires c = (c.requires.book.here, c.requires.pass.here, c.requires.pass.bare, omega (arith, c.requires.book.one_word), hosts _ _ _ _)
