use Rattle.root_stack.proofs.TwigValues.{joined-twigs, joined-roots, joined-two}
use Rattle.root_stack.proofs.laws.twigs_are_joined.Goals as goal

pub returns-clause-joined : goal.returns-clause-joined
returns-clause-joined c = joined-twigs

pub returns-clause-roots : goal.returns-clause-roots
returns-clause-roots c = joined-roots

pub returns-clause-two : goal.returns-clause-two
returns-clause-two c = joined-two
