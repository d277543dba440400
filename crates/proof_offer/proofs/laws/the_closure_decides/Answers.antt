use Rattle.proof_offer.proofs.Deciding.{decided}
use Rattle.proof_offer.proofs.laws.the_closure_decides.Goals as goal

pub returns : goal.returns
returns c m request sought sound is = decided m sound request sought is
