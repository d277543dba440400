use Rattle.log_change.proofs.Applied.{leads_to}
use Rattle.log_change.proofs.laws.a_change_leads_to_its_content.Goals as goal

pub returns : goal.returns
returns c = leads_to
