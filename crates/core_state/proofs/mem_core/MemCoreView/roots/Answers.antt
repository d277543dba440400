use Rattle.std.proofs.Common.{ap, ◌∙◌}
use Rattle.node_set.specs.Contents.{roots}
use Rattle.core_state.specs.InMemory.{Owned, content_of}
use Rattle.core_state.proofs.mem_core.MemCoreView.roots.Goals as goal

pub returns : goal.returns
returns g c = c.roots.ensures ∙ ap (λ (core : Owned _). roots (content_of core.stored)) c.self.view_is
