-- The batch of an append: the blocks behind a content, or the limit that one of them passes first.
use Rattle.std.specs.Prelude.{◌≡◌, ℕ, List, Option, Some, None, Result, Ok, Err}
use Rattle.merkle_nodes.specs.declared.limit.Limit.{Limit}
use Rattle.merkle_batch.specs.Batch.{BatchView, HasBlocks}
use Rattle.node_set.specs.declared.fault.CoreFault.{CoreFault}
use Rattle.node_set.specs.declared.fault.CoreFault.TheVariants.{Memory, Limit as LimitFault}
use Rattle.node_set.specs.Contents.{Content}
use Rattle.node_set.specs.Changes.{AppendFits}
use Rattle.core_state.specs.Refusals.{append_refusal}

-- the blocks were pushed behind the content, and keep its limits
pub record IsBatch (m : Content) (more : List (List ℕ)) (batch : BatchView) : Type 0 where
  pub base : batch.base ≡ m.length
  pub has_blocks : HasBlocks m.node more batch
  pub fits : AppendFits more m

-- an append of these blocks is prepared, or refused, or there is no memory
abbrev pub Prepares : Content → List (List ℕ) → Result BatchView CoreFault → Type 0
Prepares m more (Ok batch) = (append_refusal m more ≡ None) × IsBatch m more batch
Prepares m more (Err Memory) = Unit {0}
Prepares m more (Err fault) = append_refusal m more ≡ Some fault

-- the limit as a fault of the core
abbrev pub limit_fault : Result (Unit {0}) Limit → Option CoreFault
limit_fault (Ok _) = None
limit_fault (Err limit) = Some (LimitFault limit.what limit.max)
