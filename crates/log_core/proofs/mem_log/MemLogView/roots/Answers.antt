use Rattle.std.proofs.Common.{ap, ◌∙◌}
use Rattle.node_set.specs.Contents.{roots}
use Rattle.node_set.specs.Tables.{shown}
use Rattle.log_core.specs.Memory.{Stored}
use Rattle.log_core.proofs.mem_log.MemLogView.roots.Goals as goal

pub returns : goal.returns
returns c = c.self.invariant.root_nodes ∙ ap (λ (s : Stored). roots (shown s.parts)) c.self.view_is
