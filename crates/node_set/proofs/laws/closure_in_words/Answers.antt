use Rattle.node_set.proofs.ClosureLemmas.{closure_words}
use Rattle.node_set.proofs.laws.closure_in_words.Goals as goal

pub returns : goal.returns
returns c = closure_words
