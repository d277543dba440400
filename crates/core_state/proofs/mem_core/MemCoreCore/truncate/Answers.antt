use Rattle.core_state.proofs.ActLemmas.{turns_acts}
use Rattle.core_state.proofs.mem_core.MemCoreCore.truncate.Goals as goal

pub returns : goal.returns
returns g c = turns_acts g.A.Verifier.accepts _ _ c.self.view_is _ _ _ c.truncate.ensures tt c.self.invariant
