use Rattle.std.proofs.Common.{◌∙◌, ap, rules}
use Rattle.std.specs.Prelude.{not}
use Rattle.core_state.proofs.ActLemmas.{clear_none, clear_turns}
use Rattle.core_state.proofs.stored.MemState.clear.Goals as goal

pub returns-then-is_none : goal.returns-then-is_none
returns-then-is_none c accepts =
    clear_none accepts _ c.args.from c.args.to c.in-Ok.change _ c.in-Ok.ensures.0 c.in-Ok.ensures.1 (search rules) c.receipt.ensures

pub returns : goal.returns
returns c accepts =
    clear_turns accepts _ _ c.args.from c.args.to c.in-Ok.change _ c.in-Ok.ensures.0 c.in-Ok.ensures.1 (c.is_none.ensures ∙ ap not c.if-is_none.false)
    c.receipt-2.ensures c.give_up.ensures
