use Rattle.std.proofs.Common.{ap, subst, ◌∙◌}
use Rattle.node_set.specs.Views.{IsUsable}
use Rattle.core_state.specs.States.{info_of}
use Rattle.core_state.specs.InMemory.{Owned, content_of}
use Rattle.core_state.proofs.ActLemmas.{sound_usable}
use Rattle.core_state.proofs.mem_core.MemCoreCore.info.Goals as goal

pub returns-clause-info : goal.returns-clause-info
returns-clause-info g c = c.info.ensures ∙ ap (λ (core : Owned _). info_of (content_of core.stored)) c.self.view_is

pub returns-clause-usable : goal.returns-clause-usable
returns-clause-usable g c =
    subst (λ (core : Owned _). IsUsable (content_of core.stored)) c.self.view_is (sound_usable _ c.self.invariant.sound c.self.invariant.limits)
