use Rattle.std.proofs.Common.{ap, ◌∙◌}
use Rattle.core_state.specs.States.{receipt_of}
use Rattle.core_state.specs.InMemory.{Stored, content_of}
use Rattle.core_state.proofs.KeptLemmas.{receipt_is}
use Rattle.core_state.proofs.stored.MemState.receipt.Goals as goal

pub returns : goal.returns
returns c =
    receipt_is _ c.self.invariant c.args.commit _ c.self.invariant.root_is ∙ ap (λ (s : Stored). receipt_of (content_of s) c.args.commit) c.self.view_is
