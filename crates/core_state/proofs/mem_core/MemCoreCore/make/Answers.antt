use Rattle.core_state.proofs.ActLemmas.{make_acts}
use Rattle.core_state.proofs.mem_core.MemCoreCore.make.Goals as goal

pub returns-clause-acts : goal.returns-clause-acts
returns-clause-acts g c =
    make_acts g.A.Verifier.accepts _ _ c.self.view_is c.view.result.state.now c.make.new.view.state.now c.args.request.now c.make.result c.view.ensures
    c.make.ensures.other c.make.ensures.made c.make.ensures.fits c.self.invariant
