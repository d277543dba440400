use Rattle.node_set.proofs.CoverLemmas.{cover_test}
use Rattle.node_set.proofs.laws.cover_as_test.Goals as goal

pub returns : goal.returns
returns c = cover_test
