-- The closure told from the held blocks alone: the first one of a subtree, and numbers past the length.
use Rattle.std.proofs.Common.{◌≡◌, ℕ, Bool, true, false, ◌+◌, ◌*◌, ◌/◌, ◌≤◌, inl, inr, sym, ◌∙◌, arith, nat_lt}
use Rattle.std.proofs.lemmas.Bool.{cases_lt, cases_Bool, lt-ltb, le-ltb}
use Rattle.flat_tree.specs.Subtrees.{number, first_block_of, end_block_of}
use Rattle.flat_tree.proofs.NumberLemmas.{number_below, end_first}
use Rattle.bit_field.specs.Places.{IsFirst, AllHave}
use Rattle.node_set.specs.Closure.{any_under, in_closure}
use Rattle.node_set.proofs.ClosureLemmas.{any_under-held, held-any_under, true_closure}

module _ (held : ℕ → Bool) (depth offset first end n : ℕ) (starts : first_block_of depth offset ≡ first) (ends : end_block_of depth offset ≡ end) where
  -- where no block from the first up to the end is held, none is under the subtree
  none_held : (to : ℕ) → end ≤ to → AllHave false first to held → any_under held depth offset ≡ false
  none_held to more none = elim (cases_Bool (any_under held depth offset)) [
    | inr is ↦ is
    | inl some ↦
        let there = any_under-held held depth offset some in
        let not_held = none there.index (omega (arith, starts, there.under.0)) (omega (arith, ends, more, there.under.1)) in
        let clash : true ≡ false = sym there.is_held ∙ not_held in
        cc
  ]

  pub any_if_none : end ≤ n → AllHave false first n held → false ≡ any_under held depth offset
  any_if_none within none = sym (none_held n within none)

  pub any_if_first : (place : ℕ) → IsFirst true first n held place → nat_lt place end ≡ any_under held depth offset
  any_if_first place found = elim (cases_lt place end) [
    | inl inside ↦
        lt-ltb place end inside
        ∙ sym (held-any_under held depth offset place found.here (omega (arith, starts, found.start), omega (arith, ends, inside)))
    | inr past ↦ le-ltb place end past ∙ sym (none_held place past found.before)
  ]

-- the closure has no node whose number is twice the length or more
pub past_closure : (n : ℕ) (held : ℕ → Bool) (depth offset : ℕ) → 2 * n ≤ number depth offset → in_closure n held depth offset ≡ false
past_closure n held depth offset past = elim (cases_Bool (in_closure n held depth offset)) [
  | inr is ↦ is
  | inl test ↦ absurd (omega (arith, past, number_below depth offset, (true_closure n held depth offset test).within))
]

-- a subtree's span, as the leaves at its ends tell it
pub span_ordered : (depth offset first last : ℕ) → first ≡ 2 * first_block_of depth offset → last + 2 ≡ 2 * end_block_of depth offset
    → first / 2 ≤ last / 2 + 1
span_ordered depth offset first last is_first is_last = omega (arith, end_first depth offset, is_first, is_last)
