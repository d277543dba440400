use Rattle.core_disk.proofs.LaidLemmas.{rooted_after, followed_keeps}
use Rattle.core_disk.proofs.laid_laws.an_entry_that_follows_is_legal.Goals as goal

pub returns-clause-rooted : goal.returns-clause-rooted
returns-clause-rooted c o e on rooted = rooted_after o e on rooted

pub returns-clause-legal : goal.returns-clause-legal
returns-clause-legal c area now o e on rooted keeps = followed_keeps o e on rooted area now keeps
