-- Which nodes are to be stored, as the held blocks of a range decide it.
use Rattle.std.proofs.Common.{◌≡◌, ℕ, Bool, true, false, suc, ◌/◌, ◌≤◌, inl, inr, Option, Some, None, refl, sym, ap, ◌∙◌, arith}
use Rattle.std.specs.Prelude.{is_some, IfSome}
use Rattle.std.proofs.lemmas.Bool.{cases_Bool}
use Rattle.flat_tree.specs.Subtrees.{number, first_block_of, end_block_of}
use Rattle.flat_tree.proofs.NumberLemmas.{same_depth, same_place}
use Rattle.node_set.specs.Contents.{held}
use Rattle.node_set.specs.Closure.{any_under, in_closure}
use Rattle.node_set.proofs.ClosureLemmas.{any_under-held, held-any_under, within_true}
use Rattle.node_set.proofs.Stored.{half_within}
use Rattle.log_view.specs.Views.{Source, HoldsNone, IsFirstHeld, IsStored}

-- a search from the first block of a subtree to its end finds a held one exactly where there is one
pub any_found : (has : ℕ → Bool) (depth offset first end : ℕ) (found : Option ℕ) → first_block_of depth offset ≡ first → end_block_of depth offset ≡ end
    → IfSome found (IsFirstHeld has first end) → (found ≡ None → HoldsNone has first end) → is_some found ≡ any_under has depth offset
any_found has depth offset first end (Some index) starts ends is none =
    sym (held-any_under has depth offset index is.is_held (omega (arith, starts, is.from_on), omega (arith, ends, is.before)))
any_found has depth offset first end None starts ends is none = elim (cases_Bool (any_under has depth offset)) [
  | inr nothing ↦ sym nothing
  | inl some ↦
      let there = any_under-held has depth offset some in
      let not_held = none refl there.index (omega (arith, starts, there.under.0)) (omega (arith, ends, there.under.1)) in
      let clash : true ≡ false = sym there.is_held ∙ not_held in
      cc
]

-- below a root a node is to be stored where a block under its parent is held
pub closure_below : (n : ℕ) (has : ℕ → Bool) (depth offset : ℕ) → end_block_of (suc depth) (offset / 2) ≤ n
    → in_closure n has depth offset ≡ any_under has (suc depth) (offset / 2)
closure_below n has depth offset within =
    rw (within_true n depth offset (half_within depth offset n within), within_true n (suc depth) (offset / 2) within) refl

-- a node of the closure is to be stored by its number
pub stored_number : (s : Source) (depth offset index : ℕ) → index ≡ number depth offset → in_closure s.content.length (held s.content) depth offset ≡ true
    → IsStored s index
stored_number s depth offset index is test deep place same =
    let equal : number deep place ≡ number depth offset = same ∙ is in
    let level : deep ≡ depth = same_depth deep place depth offset equal in
    let beside : place ≡ offset = same_place depth place offset (ap (λ (d : ℕ). number d place) (sym level) ∙ equal) in
    ap (λ (d : ℕ). in_closure s.content.length (held s.content) d place) level
    ∙ ap (in_closure s.content.length (held s.content) depth) beside
    ∙ test
