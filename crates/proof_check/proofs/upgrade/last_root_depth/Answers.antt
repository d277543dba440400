use Rattle.proof_check.proofs.Climbing.{none_over}
use Rattle.proof_check.proofs.upgrade.last_root_depth.Goals as goal

pub returns-then-base-eq0 : goal.returns-then-base-eq0
returns-then-base-eq0 c = none_over c.args.base c.if-base-eq0.true
