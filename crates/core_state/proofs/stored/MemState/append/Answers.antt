use Rattle.std.proofs.Common.{arith}
use Rattle.core_state.proofs.ActLemmas.{append_none, append_turns}
use Rattle.core_state.proofs.stored.MemState.append.Goals as goal

pub returns-then-len-eq0 : goal.returns-then-len-eq0
returns-then-len-eq0 g c = append_none _ _ c.args.blocks.now _ (omega arith) c.receipt.ensures

pub returns-in-Ok-extend : goal.returns-in-Ok-extend
returns-in-Ok-extend g c =
    append_turns _ _ _ c.args.blocks.now _ _ c.in-Ok.ensures.0 c.in-Ok.ensures.1.fits c.len-in-Ok-extend.ensures (omega arith)
    c.extend.ensures.below c.receipt-in-Ok-extend.ensures
    c.in-Ok-extend.ensures.ok
