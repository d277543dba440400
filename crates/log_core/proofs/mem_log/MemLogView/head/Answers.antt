use Rattle.std.proofs.Common.{subst}
use Rattle.node_set.specs.Tables.{shown}
use Rattle.log_view.specs.Views.{IsUsable}
use Rattle.log_core.specs.Memory.{Stored}
use Rattle.log_core.proofs.KeptParts.{usable}
use Rattle.log_core.proofs.mem_log.MemLogView.head.Goals as goal

pub returns-clause-usable : goal.returns-clause-usable
returns-clause-usable c = subst (λ (s : Stored). IsUsable (shown s.parts)) c.self.view_is (usable _ c.self.invariant)
