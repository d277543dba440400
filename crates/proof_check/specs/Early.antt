-- The refusals that need no node: of the head, of the limits, and of a block past the end.
use Rattle.std.specs.Prelude.{ℕ, Bool, ◌+◌, ◌&&◌, List, Option, sum_by, is_none, nat_lt}
use Rattle.flat_tree.specs.declared.limits.TheConstants.{MAX_BLOCKS, MAX_CORE_BYTES}
use Rattle.merkle_nodes.specs.declared.limit.What.TheVariants.{Blocks, Bytes}
use Rattle.merkle_nodes.specs.declared.node.Twig.{Twig}
use Rattle.proof_form.specs.declared.proof.UpgradePart.{UpgradePart}
use Rattle.proof_form.specs.Proofs.{Proof}
use Rattle.node_set.specs.declared.fault.Refusal.{Refusal}
use Rattle.node_set.specs.declared.fault.Refusal.TheVariants.{Limit}
use Rattle.node_set.specs.Contents.{Content}
use Rattle.node_set.specs.Refuses.{or_else, refuse_if}
use Rattle.proof_check.specs.Upgraded.{length_after}
use Rattle.proof_check.specs.Parts.{of_part, part_of_block, range_refusal}
use Rattle.proof_check.specs.Judge.{head_refusal}

-- the bytes under some twigs
abbrev pub twig_bytes : List Twig → ℕ
twig_bytes = sum_by (λ (twig : Twig). twig.size)

-- an upgrade of a log of so many bytes passes a limit: of blocks, or, where the head isn't refused, of bytes
abbrev pub limits_refusal : Option UpgradePart → Bool → ℕ → Option Refusal
limits_refusal upgrade due bytes = of_part upgrade (λ u.
    or_else (refuse_if (nat_lt MAX_BLOCKS u.length) (Limit Blocks MAX_BLOCKS))
    (refuse_if (due && nat_lt MAX_CORE_BYTES (bytes + twig_bytes u.nodes)) (Limit Bytes MAX_CORE_BYTES)))

-- the first of these that holds of a proof, where the log has so many bytes
abbrev pub early_refusal : Proof → Content → ℕ → Option Refusal
early_refusal p m bytes =
    or_else (limits_refusal p.upgrade (is_none (head_refusal p m)) bytes)
    (or_else (of_part p.block (λ b. range_refusal (length_after p m) (part_of_block b))) (head_refusal p m))
