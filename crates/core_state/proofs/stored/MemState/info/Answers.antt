use Rattle.std.proofs.Common.{ap, ◌∙◌}
use Rattle.node_set.specs.Contents.{bytes_under}
use Rattle.core_state.specs.States.{info_of}
use Rattle.core_state.specs.InMemory.{Stored, content_of}
use Rattle.core_state.proofs.KeptLemmas.{info_is}
use Rattle.core_state.proofs.stored.MemState.info.Goals as goal

pub returns : goal.returns
returns c =
    info_is _ c.self.invariant _ _ _ (c.bytes_under.ensures ∙ ap bytes_under c.as_slice.ensures.items) c.count.ensures c.self.invariant.root_is
    ∙ ap (λ (s : Stored). info_of (content_of s)) c.self.view_is
