use Rattle.core_state.proofs.ActLemmas.{page_acts}
use Rattle.core_state.proofs.mem_core.MemCoreCore.bits.Goals as goal

pub returns-clause-acts : goal.returns-clause-acts
returns-clause-acts g c = page_acts g.A.Verifier.accepts _ _ c.self.view_is c.args.number _ c.page.ensures c.self.invariant
