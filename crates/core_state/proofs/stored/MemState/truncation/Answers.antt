use Rattle.core_forks.specs.Refusals.{truncate_refusal}
use Rattle.core_forks.specs.Truncations.{IsTruncation}
use Rattle.node_set.specs.Contents.{Content}
use Rattle.core_state.specs.InMemory.{Stored, view_of}
use Rattle.core_state.proofs.ActLemmas.{decides}
use Rattle.core_state.proofs.stored.MemState.truncation.Goals as goal

pub returns : goal.returns
returns c =
    decides c.view.result.state.now c.truncate.new.view.state.now c.args.self.now c.view.ensures
    (λ (m : Content). truncate_refusal m c.args.to c.args.fork) (λ (s : Stored). IsTruncation (view_of s) c.args.to c.args.fork) c.truncate.result c.truncate.ensures.answers
