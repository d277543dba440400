use Rattle.core_state.proofs.ActLemmas.{turns_acts}
use Rattle.core_state.proofs.mem_core.MemCoreCore.clear.Goals as goal

pub invariant_of-self : goal.invariant_of-self
invariant_of-self g c = (c.clear.ensures (g.A.Verifier.accepts c.self.inside.auth)).whole c.self.invariant

pub returns : goal.returns
returns g c = turns_acts g.A.Verifier.accepts _ _ c.self.view_is _ _ _ (c.clear.ensures (g.A.Verifier.accepts c.self.inside.auth)) tt c.self.invariant
