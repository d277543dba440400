use Rattle.commit_book.proofs.steps.write.Given as goal

abbrev pub ghosts-add : goal.ghosts-add
ghosts-add a = record { entry = a.entry.now }
