use Rattle.std.proofs.Common.{ap, ◌∙◌}
use Rattle.node_set.specs.Contents.{roots}
use Rattle.core_state.specs.InMemory.{Stored, content_of}
use Rattle.core_state.proofs.stored.MemState.roots.Goals as goal

pub returns : goal.returns
returns c = c.self.invariant.root_nodes ∙ ap (λ (s : Stored). roots (content_of s)) c.self.view_is
