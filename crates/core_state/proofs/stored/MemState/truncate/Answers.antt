use Rattle.std.proofs.Common.{refl}
use Rattle.core_state.specs.InMemory.{content_of}
use Rattle.core_state.proofs.ActLemmas.{truncate_turns}
use Rattle.core_state.proofs.CutLemmas.{truncate_passes}
use Rattle.core_state.proofs.stored.MemState.truncate.Goals as goal

pub cut-requires-clause-roots : goal.cut-requires-clause-roots
cut-requires-clause-roots g c = c.in-Ok.ensures.1.roots_are.stored refl

pub cut-requires-clause-found : goal.cut-requires-clause-found
cut-requires-clause-found g c = (truncate_passes (content_of c.args.self.now) c.args.to c.args.fork c.in-Ok.ensures.0).stored

pub returns : goal.returns
returns g c = truncate_turns _ _ _ c.args.to c.args.fork _ c.in-Ok.ensures.0 c.receipt.ensures c.cut.ensures
