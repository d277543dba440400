use Rattle.proof_check.proofs.AdmitWhole.{admitted_whole}
use Rattle.proof_check.proofs.AdmitHistory.{admit_history}
use Rattle.proof_check.proofs.laws.admitted_stays_whole.Goals as goal

pub returns-clause-whole : goal.returns-clause-whole
returns-clause-whole c = admitted_whole

pub returns-clause-history : goal.returns-clause-history
returns-clause-history c = admit_history
