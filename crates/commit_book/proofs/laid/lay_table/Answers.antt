use Rattle.commit_book.proofs.Moves.{begins}
use Rattle.commit_book.proofs.laid.lay_table.Goals as goal

pub of_words-requires : goal.of_words-requires
of_words-requires c = begins
