use Rattle.std.proofs.Common.{subst}
use Rattle.node_set.specs.Views.{IsUsable, StandsSoundly}
use Rattle.core_state.specs.InMemory.{Stored, content_of, view_of}
use Rattle.core_state.proofs.KeptLemmas.{usable}
use Rattle.core_state.proofs.stored.MemState.head.Goals as goal

pub returns-clause-usable : goal.returns-clause-usable
returns-clause-usable c = subst (λ (s : Stored). IsUsable (content_of s)) c.self.view_is (usable _ c.self.invariant)

pub returns-clause-sound : goal.returns-clause-sound
returns-clause-sound c =
    subst (λ (s : Stored). StandsSoundly (view_of s)) c.self.view_is (λ stands. (c.self.invariant.sound, c.self.invariant.limits))
