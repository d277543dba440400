use Rattle.core_forks.specs.Refusals.{clear_refusal}
use Rattle.core_forks.specs.Truncations.{IsClearing}
use Rattle.node_set.specs.Contents.{Content}
use Rattle.core_state.specs.InMemory.{Stored, content_of}
use Rattle.core_state.proofs.ActLemmas.{decides}
use Rattle.core_state.proofs.stored.MemState.clearing.Goals as goal

pub returns : goal.returns
returns c =
    decides c.view.result.state.now c.clear.new.view.state.now c.args.self.now c.view.ensures
    (λ (m : Content). clear_refusal m c.args.from c.args.to) (λ (s : Stored). IsClearing (content_of s) c.args.from c.args.to) c.clear.result c.clear.ensures.answers
