use Rattle.std.proofs.Common.{sym, subst, ◌∙◌, List}
use Rattle.merkle_nodes.specs.declared.node.Node.{Node}
use Rattle.merkle_nodes.specs.Roots.{HasShape}
use Rattle.node_set.proofs.SoundLemmas.{roots_shape}
use Rattle.core_state.specs.InMemory.{content_of}
use Rattle.core_state.specs.Stores.{stored_of}
use Rattle.core_state.proofs.KeptLemmas.{root_sizes}
use Rattle.core_state.proofs.BatchLemmas.{prepared, limit_is}
use Rattle.core_state.proofs.stored.MemState.batch.Goals as goal

pub start-requires-clause-shape : goal.start-requires-clause-shape
start-requires-clause-shape c =
    let m = content_of (stored_of c.self.inside) in
    subst (λ (nodes : List Node). HasShape nodes m.length) (sym c.self.invariant.root_nodes) (roots_shape m.node m.length)

pub start-requires-clause-sizes : goal.start-requires-clause-sizes
start-requires-clause-sizes c = root_sizes _ c.self.invariant

pub returns-in-Ok-push_all : goal.returns-in-Ok-push_all
returns-in-Ok-push_all c =
    prepared _ _ c.self.invariant c.self.view_is c.args.blocks.now _ _ c.start.ensures.empty c.push_all.new.batch c.in-Ok-push_all.ensures.limit
    c.push_all.ensures.base c.in-Ok-push_all.ensures.held c.start.ensures.held

pub returns-in-Err-push_all : goal.returns-in-Err-push_all
returns-in-Err-push_all c =
    limit_is _ _ c.self.invariant c.self.view_is c.args.blocks.now _ _ c.start.ensures.empty ∙ sym c.in-Err-push_all.ensures.limit
