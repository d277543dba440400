use Rattle.std.proofs.Common.{subst}
use Rattle.node_set.specs.Views.{GivesNode}
use Rattle.core_state.specs.InMemory.{Stored, view_of}
use Rattle.core_state.proofs.KeptLemmas.{gives_found}
use Rattle.core_state.proofs.stored.MemState.node.Goals as goal

pub returns-then-is_stored : goal.returns-then-is_stored
returns-then-is_stored c =
    let found = gives_found _ c.self.invariant c.args.index c.get.result c.if-is_stored.ensures c.get.ensures.value c.get.ensures.numbered in
    subst (λ (s : Stored). GivesNode (view_of s) c.args.index c.get.result) c.self.view_is found
