use Rattle.region_pool.proofs.EventLemmas.{given_before_taken, taken_free}
use Rattle.region_pool.proofs.laws.held_once.Goals as goal

pub returns-clause-given : goal.returns-clause-given
returns-clause-given c = given_before_taken

pub returns-clause-free : goal.returns-clause-free
returns-clause-free c = taken_free
