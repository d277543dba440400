use Rattle.std.proofs.Common.{sym, subst}
use Rattle.log_view.specs.Views.{IsStored, GivesNode}
use Rattle.log_core.specs.Memory.{Stored, memory_view}
use Rattle.log_core.specs.MemoryParts.{stored_of}
use Rattle.log_core.proofs.KeptParts.{is_there, gives_node, no_node}
use Rattle.log_core.proofs.mem_log.MemLogView.node.Goals as goal

pub unreachable-requires : goal.unreachable-requires
unreachable-requires c =
    let stored = subst (λ (s : Stored). IsStored (memory_view s).source c.args.index) (sym c.self.view_is) c.requires.stored in
    no_node (stored_of c.self.inside) c.args.index (is_there (stored_of c.self.inside) c.self.invariant c.args.index stored) c.in-None.ensures.at

pub returns-clause-gives : goal.returns-clause-gives
returns-clause-gives c =
    let stored = subst (λ (s : Stored). IsStored (memory_view s).source c.args.index) (sym c.self.view_is) c.requires.stored in
    subst (λ (s : Stored). GivesNode (memory_view s).source c.args.index c.in-Some.node) c.self.view_is
    (gives_node (stored_of c.self.inside) c.self.invariant c.args.index stored c.in-Some.node c.in-Some.ensures.at c.in-Some.ensures.numbered)
