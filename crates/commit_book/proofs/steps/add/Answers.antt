use Rattle.std.proofs.Common.{arith}
use Rattle.commit_book.proofs.Moves.{adds}
use Rattle.commit_book.proofs.steps.add.Goals as goal

pub fetch_add-requires : goal.fetch_add-requires
fetch_add-requires g c = (c.requires.book.here, omega (arith, c.requires.book.one_word), adds _ _ _ _ _ c.requires.book.keeps c.requires.room)
