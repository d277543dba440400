-- When a part is past an end, and the refusals by numbers in their order.
use Rattle.std.proofs.Common.{◌≡◌, ℕ, Bool, true, false, ◌+◌, ◌/◌, ◌^◌, ◌<◌, ◌≤◌, Option, Some, None, refl, sym, ap, ◌∙◌, nat_lt}
use Rattle.std.specs.Prelude.{is_none, is_some, not, ◌&&◌}
use Rattle.std.proofs.lemmas.Bool.{lt-ltb, le-ltb}
use Rattle.std.proofs.lemmas.Nat.{shr-shr}
use Rattle.flat_tree.specs.Subtrees.{number, end_block_of}
use Rattle.flat_tree.proofs.NumberLemmas.{depth_some, shifted}
use Rattle.flat_tree.specs.declared.limits.TheConstants.{MAX_BLOCKS, MAX_CORE_BYTES}
use Rattle.merkle_nodes.specs.declared.limit.What.TheVariants.{Blocks, Bytes}
use Rattle.proof_form.specs.Proofs.{Proof}
use Rattle.node_set.specs.declared.fault.Refusal.{Refusal}
use Rattle.node_set.specs.declared.fault.Refusal.TheVariants.{Limit, OutOfRange}
use Rattle.node_set.specs.Contents.{Content}
use Rattle.node_set.specs.Refuses.{or_else, refuse_if}
use Rattle.node_set.specs.Paths.{depth_of, offset_of_node}
use Rattle.proof_check.specs.Upgraded.{length_after}
use Rattle.proof_check.specs.Parts.{Part, of_part, range_refusal}
use Rattle.proof_check.specs.Judge.{each_part, head_refusal}
use Rattle.proof_judge.specs.Numbers.{bytes_after, numbers_refusal}

pub past_end : (end : ℕ) (part : Part) → end < end_block_of part.depth part.offset → range_refusal end part ≡ Some (OutOfRange end)
past_end end part past = rw (lt-ltb end (end_block_of part.depth part.offset) past) refl

pub below_end : (end : ℕ) (part : Part) → end_block_of part.depth part.offset ≤ end → range_refusal end part ≡ None
below_end end part within = rw (le-ltb end (end_block_of part.depth part.offset) within) refl

-- a node's number is that of its depth and its offset
pub number_parts : (index : ℕ) → index + 1 < 2 ^ 64 → index ≡ number (depth_of index) (offset_of_node index)
number_parts index fits =
    let some = depth_some index (depth_of index) fits refl in
    let same : offset_of_node index ≡ some.0 = over index (depth_of index) ∙ ap (λ (n : ℕ). n / 2 ^ depth_of index / 2) some.1 ∙ shifted (depth_of index) some.0 in
    some.1 ∙ ap (number (depth_of index)) (sym same)
  where
    over : (n d : ℕ) → n / 2 ^ (d + 1) ≡ n / 2 ^ d / 2
    over n d = sym (shr-shr n d 1)

-- the refusals by numbers in their order
pub in_order : (p : Proof) (m : Content) (bytes end : ℕ) (due : Bool) (l r h : Option Refusal) → is_some h ≡ not due → bytes ≡ bytes_after p m
    → end ≡ length_after p m → h ≡ head_refusal p m
    → l ≡ or_else (of_part p.upgrade (λ u. refuse_if (nat_lt MAX_BLOCKS u.length) (Limit Blocks MAX_BLOCKS))) (refuse_if (due && nat_lt MAX_CORE_BYTES bytes) (Limit Bytes MAX_CORE_BYTES))
    → r ≡ each_part p (range_refusal end) → or_else l (or_else r h) ≡ numbers_refusal p m
in_order p m bytes end due l r h is_due is_bytes is_end is_head is_limit is_range =
    let none : is_none h ≡ due = free h due is_due in
    rw (is_limit, is_range, is_bytes, is_end, sym none, is_head) refl
  where
    free : (h : Option Refusal) (due : Bool) → is_some h ≡ not due → is_none h ≡ due
    free (Some x) true is = cc
    free (Some x) false is = refl
    free None true is = refl
    free None false is = cc
