-- Refusals by numbers, one by one.
use Rattle.std.proofs.Common.{◌≡◌, ℕ, Bool, true, false, ◌+◌, ◌<◌, ◌≤◌, Option, Some, None, refl, sym, arith, nat_lt}
use Rattle.std.specs.Prelude.{is_none, is_some, not, ◌&&◌}
use Rattle.std.proofs.lemmas.Bool.{lt-ltb, le-ltb}
use Rattle.flat_tree.specs.Subtrees.{end_block_of}
use Rattle.flat_tree.proofs.NumberLemmas.{leaf}
use Rattle.proof_form.specs.declared.proof.UpgradePart.{UpgradePart}
use Rattle.proof_form.specs.Proofs.{Proof, Block}
use Rattle.node_set.specs.declared.fault.Refusal.{Refusal}
use Rattle.node_set.specs.declared.fault.Refusal.TheVariants.{OutOfRange, OldFork, NewFork}
use Rattle.node_set.specs.Contents.{Content}
use Rattle.node_set.specs.Refuses.{or_else, refuse_if}
use Rattle.proof_check.specs.Upgraded.{length_after}
use Rattle.proof_check.specs.Parts.{of_part, part_of_block, range_refusal}
use Rattle.proof_check.specs.Judge.{longer_refusal, start_refusal, head_refusal}
use Rattle.proof_check.specs.Early.{limits_refusal, early_refusal}

leaf_end : (index : ℕ) → end_block_of 0 index ≡ index + 1
leaf_end index = (leaf index).2

pub range_past : (end : ℕ) (b : Block) → end ≤ b.index → range_refusal end (part_of_block b) ≡ Some (OutOfRange end)
range_past end b past = rw (lt-ltb end (end_block_of 0 b.index) (omega (arith, past, leaf_end b.index))) refl

pub range_below : (end : ℕ) (b : Block) → b.index < end → range_refusal end (part_of_block b) ≡ None
range_below end b below = rw (le-ltb end (end_block_of 0 b.index) (omega (arith, below, leaf_end b.index))) refl

-- an upgrade that is not under an older fork
pub head_upgrade : (p : Proof) (m : Content) (u : UpgradePart) → p.upgrade ≡ Some u → m.fork ≤ p.fork
    → or_else (longer_refusal p m u) (start_refusal p m u) ≡ head_refusal p m
head_upgrade p m u is older = rw is (none (nat_lt m.fork p.fork) (le-ltb p.fork m.fork older))
  where
    none : (newer : Bool) → nat_lt p.fork m.fork ≡ false
        → or_else (longer_refusal p m u) (start_refusal p m u)
        ≡ or_else (or_else (refuse_if (nat_lt p.fork m.fork) (OldFork m.fork)) (refuse_if (newer && false) (NewFork m.fork))) (or_else (longer_refusal p m u) (start_refusal p m u))
    none true older = rw older refl
    none false older = rw older refl

-- all of them in order
pub early_is : (p : Proof) (m : Content) (bytes sum end : ℕ) (due : Bool) (l r h : Option Refusal) → is_some h ≡ not due → sum ≡ bytes → end ≡ length_after p m
    → h ≡ head_refusal p m → l ≡ limits_refusal p.upgrade due sum → r ≡ of_part p.block (λ b. range_refusal end (part_of_block b))
    → or_else l (or_else r h) ≡ early_refusal p m bytes
early_is p m bytes sum end due l r h is_due is_sum is_end is_head is_limit is_range =
    let none : is_none h ≡ due = free h due is_due in
    rw (is_limit, is_range, is_sum, is_end, sym none, is_head) refl
  where
    free : (h : Option Refusal) (due : Bool) → is_some h ≡ not due → is_none h ≡ due
    free (Some x) true is = cc
    free (Some x) false is = refl
    free None true is = refl
    free None false is = cc
