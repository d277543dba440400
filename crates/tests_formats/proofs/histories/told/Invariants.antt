use Rattle.std.specs.Prelude.{[], false}
use Rattle.tests_formats.proofs.histories.told.Given as goal

abbrev pub ghosts-told_of_a_book-N-Named : goal.ghosts-told_of_a_book-N-Named
ghosts-told_of_a_book-N-Named g a = record {
  book = a.laid.book;
  start = record { fork = 0; length = 0; root = []; held = λ index. false };
  faults = 0;
  stood = false;
}

abbrev pub ghosts-told_of_a_book-N-Ledger : goal.ghosts-told_of_a_book-N-Ledger
ghosts-told_of_a_book-N-Ledger g a = record { name = a.laid.commits; parts = a.laid.passes }

abbrev pub ghosts-told_of_a_book-F-Ledger : goal.ghosts-told_of_a_book-F-Ledger
ghosts-told_of_a_book-F-Ledger g a = record { name = a.laid.marks; parts = a.laid.passes }
