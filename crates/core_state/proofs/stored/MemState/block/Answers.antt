use Rattle.core_state.proofs.KeptLemmas.{gives_block}
use Rattle.core_state.proofs.stored.MemState.block.Goals as goal

pub returns : goal.returns
returns c =
    gives_block _ c.self.invariant _ c.self.view_is c.args.index _ _ _ _ c.requires.held c.index.ensures c.bytes-bytes.ensures c.copy_from_slice.ensures.after
