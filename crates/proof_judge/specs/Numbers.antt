-- The refusals that the numbers of a proof, a head and its roots decide, in their order.
use Rattle.std.specs.Prelude.{ℕ, ◌+◌, ◌&&◌, Option, Some, None, is_none, nat_lt, if◌then◌else◌}
use Rattle.flat_tree.specs.declared.limits.TheConstants.{MAX_BLOCKS, MAX_CORE_BYTES}
use Rattle.merkle_nodes.specs.declared.limit.What.TheVariants.{Blocks, Bytes}
use Rattle.proof_form.specs.declared.proof.UpgradePart.{UpgradePart}
use Rattle.proof_form.specs.Proofs.{Proof}
use Rattle.node_set.specs.declared.fault.Refusal.{Refusal}
use Rattle.node_set.specs.declared.fault.Refusal.TheVariants.{Limit}
use Rattle.node_set.specs.Contents.{Content, roots, bytes_under}
use Rattle.node_set.specs.Refuses.{or_else, refuse_if}
use Rattle.root_stack.specs.Stack.{twig_bytes}
use Rattle.proof_check.specs.Upgraded.{length_after}
use Rattle.proof_check.specs.Parts.{of_part, range_refusal}
use Rattle.proof_check.specs.Judge.{each_part, head_refusal}

-- the bytes of the roots that an upgrade is joined to: the log's under its own fork, none under a greater one
abbrev pub bytes_before : Proof → Content → ℕ
bytes_before p m = if nat_lt m.fork p.fork then 0 else bytes_under (roots m)

-- the bytes of the log that a proof leads to
abbrev pub bytes_after : Proof → Content → ℕ
bytes_after p m = ByUpgrade p.upgrade
  where
    ByUpgrade : Option UpgradePart → ℕ
    ByUpgrade None = bytes_under (roots m)
    ByUpgrade (Some u) = bytes_before p m + twig_bytes u.nodes

-- the log would have too many blocks, or, where the head isn't refused, too many bytes
abbrev pub size_refusal : Proof → Content → Option Refusal
size_refusal p m = or_else (of_part p.upgrade (λ u. refuse_if (nat_lt MAX_BLOCKS u.length) (Limit Blocks MAX_BLOCKS)))
    (refuse_if (is_none (head_refusal p m) && nat_lt MAX_CORE_BYTES (bytes_after p m)) (Limit Bytes MAX_CORE_BYTES))

-- the limits, then each part's range, then the head
abbrev pub numbers_refusal : Proof → Content → Option Refusal
numbers_refusal p m = or_else (size_refusal p m) (or_else (each_part p (range_refusal (length_after p m))) (head_refusal p m))
