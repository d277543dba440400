-- The closure in words: what is under a subtree, its parent and its halves.
use Rattle.std.proofs.Common.{◌≡◌, ℕ, zero, suc, Bool, true, ◌+◌, ◌*◌, ◌/◌, ◌%◌, ◌<◌, ◌≤◌, ◌⊎◌, inl, inr, sym, ap, subst, ◌∙◌, arith}
use Rattle.std.specs.Prelude.{not, ◌||◌}
use Rattle.std.proofs.lemmas.Bool.{cases_lt, cases_eq, le-leb, lt-leb, leb-true, leb-false, and_parts, and_from, or_cases, or_left, or_right, not-true}
use Rattle.flat_tree.specs.Subtrees.{first_block_of, end_block_of}
use Rattle.flat_tree.proofs.NumberLemmas.{end_first, first-suc, end-suc, halves_meet, leaf}
use Rattle.std.proofs.lemmas.Nat.{pow_pos}
use Rattle.node_set.specs.Closure.{is_within, is_root, any_under, in_closure, IsUnder, IsFullRoot, IsInClosure}

-- ---- the subtree over one, and its halves

-- a number is a left or a right half
pub half_cases : (p : ℕ) → (p ≡ 2 * (p / 2)) ⊎ (p ≡ 2 * (p / 2) + 1)
half_cases p = elim (cases_eq (p % 2) 0) [ inl even ↦ inl (omega arith) | inr odd ↦ inr (omega arith) ]

pub half_left : (o : ℕ) → 2 * o / 2 ≡ o
half_left o = omega arith

pub half_right : (o : ℕ) → (2 * o + 1) / 2 ≡ o
half_right o = omega arith

-- the parts of a subtree's span: its halves meet
pub record HalvesMeet (d o : ℕ) : Type 0 where
  pub first : first_block_of (suc d) o ≡ first_block_of d (2 * o)
  pub middle : end_block_of d (2 * o) ≡ first_block_of d (2 * o + 1)
  pub last : end_block_of (suc d) o ≡ end_block_of d (2 * o + 1)
  pub left : first_block_of d (2 * o) < end_block_of d (2 * o)
  pub right : first_block_of d (2 * o + 1) < end_block_of d (2 * o + 1)

pub span_some : (d o : ℕ) → first_block_of d o < end_block_of d o
span_some d o = omega (arith, end_first d o, pow_pos d)

pub spans_meet : (d o : ℕ) → HalvesMeet d o
spans_meet d o = record {
  first = first-suc d o;
  middle = halves_meet d o;
  last = end-suc d o;
  left = span_some d (2 * o);
  right = span_some d (2 * o + 1);
}

-- a subtree is inside the one over it
pub record IsInside (d o e p : ℕ) : Type 0 where
  pub first : first_block_of e p ≤ first_block_of d o
  pub last : end_block_of d o ≤ end_block_of e p

pub inside_up : (d o : ℕ) → IsInside d o (suc d) (o / 2)
inside_up d o =
    let meet = spans_meet d (o / 2) in
    elim (half_cases o) [
      | inl left ↦
          let first : first_block_of d o ≡ first_block_of d (2 * (o / 2)) = ap (λ (k : ℕ). first_block_of d k) left in
          let last : end_block_of d o ≡ end_block_of d (2 * (o / 2)) = ap (λ (k : ℕ). end_block_of d k) left in
          record { first = omega arith; last = omega arith }
      | inr right ↦
          let first : first_block_of d o ≡ first_block_of d (2 * (o / 2) + 1) = ap (λ (k : ℕ). first_block_of d k) right in
          let last : end_block_of d o ≡ end_block_of d (2 * (o / 2) + 1) = ap (λ (k : ℕ). end_block_of d k) right in
          record { first = omega arith; last = omega arith }
    ]

-- ---- blocks that are held under a subtree

-- some held block is under the subtree
pub record IsHeldUnder (held : ℕ → Bool) (d o : ℕ) : Type 0 where
  pub index : ℕ
  pub is_held : held index ≡ true
  pub under : IsUnder index d o

pub any_under-held : (held : ℕ → Bool) (d o : ℕ) → any_under held d o ≡ true → IsHeldUnder held d o
unfolding any_under
any_under-held held zero o any = record { index = o; is_held = any; under = (omega (arith, leaf o), omega (arith, leaf o)) }
any_under-held held (suc d) o any =
    let meet = spans_meet d o in
    elim (or_cases (any_under held d (2 * o)) (any_under held d (2 * o + 1)) any) [
      | inl left ↦
          let there = any_under-held held d (2 * o) left in
          record { index = there.index; is_held = there.is_held; under = (omega (arith, there.under.0, meet), omega (arith, there.under.1, meet)) }
      | inr right ↦
          let there = any_under-held held d (2 * o + 1) right in
          record { index = there.index; is_held = there.is_held; under = (omega (arith, there.under.0, meet), omega (arith, there.under.1, meet)) }
    ]

pub held-any_under : (held : ℕ → Bool) (d o index : ℕ) → held index ≡ true → IsUnder index d o → any_under held d o ≡ true
unfolding any_under
held-any_under held zero o index is_held under =
    let same : index ≡ o = omega (arith, leaf o, under.0, under.1) in
    ap held (sym same) ∙ is_held
held-any_under held (suc d) o index is_held under =
    let meet = spans_meet d o in
    elim (cases_lt index (end_block_of d (2 * o))) [
      | inl less ↦
          or_left (any_under held d (2 * o)) (any_under held d (2 * o + 1))
          (held-any_under held d (2 * o) index is_held (omega (arith, under.0, meet), less))
      | inr more ↦
          or_right (any_under held d (2 * o)) (any_under held d (2 * o + 1))
          (held-any_under held d (2 * o + 1) index is_held (omega (arith, more, meet), omega (arith, under.1, meet)))
    ]

-- what is under a subtree is under the one over it
pub under_up : (index d o : ℕ) → IsUnder index d o → IsUnder index (suc d) (o / 2)
under_up index d o under = let up = inside_up d o in (omega (arith, under.0, up), omega (arith, under.1, up))

pub any_under-up : (held : ℕ → Bool) (d o : ℕ) → any_under held d o ≡ true → any_under held (suc d) (o / 2) ≡ true
any_under-up held d o any =
    let there = any_under-held held d o any in
    held-any_under held (suc d) (o / 2) there.index there.is_held (under_up there.index d o there.under)

-- where more is held, more is under
pub any_under-more : (fewer more : ℕ → Bool) → ((index : ℕ) → fewer index ≡ true → more index ≡ true) → (d o : ℕ)
    → any_under fewer d o ≡ true → any_under more d o ≡ true
any_under-more fewer more holds d o any =
    let there = any_under-held fewer d o any in
    held-any_under more d o there.index (holds there.index there.is_held) there.under

-- ---- the closure

pub within_true : (n d o : ℕ) → end_block_of d o ≤ n → is_within n d o ≡ true
within_true n d o within = le-leb (end_block_of d o) n within

pub true_within : (n d o : ℕ) → is_within n d o ≡ true → end_block_of d o ≤ n
true_within n d o test = leb-true (end_block_of d o) n test

pub not_within_true : (n d o : ℕ) → n < end_block_of d o → not (is_within n d o) ≡ true
not_within_true n d o past = ap not (lt-leb (end_block_of d o) n past)

pub true_not_within : (n d o : ℕ) → not (is_within n d o) ≡ true → n < end_block_of d o
true_not_within n d o test = leb-false (end_block_of d o) n (not-true (is_within n d o) test)

-- what the test of a full root tells, and from what it is true
pub root_true : (n d o : ℕ) → IsFullRoot n d o → is_root n d o ≡ true
root_true n d o root =
    and_from (is_within n d o) (not (is_within n (suc d) (o / 2))) (within_true n d o root.within) (not_within_true n (suc d) (o / 2) root.largest)

pub true_root : (n d o : ℕ) → is_root n d o ≡ true → IsFullRoot n d o
true_root n d o test =
    let parts = and_parts (is_within n d o) (not (is_within n (suc d) (o / 2))) test in
    record { within = true_within n d o parts.0; largest = true_not_within n (suc d) (o / 2) parts.1 }

-- what the test of the closure tells: within the length, and a full root or a held block under the parent
pub record IsClosure (n : ℕ) (held : ℕ → Bool) (d o : ℕ) : Type 0 where
  pub within : end_block_of d o ≤ n
  pub why : (n < end_block_of (suc d) (o / 2)) ⊎ (any_under held (suc d) (o / 2) ≡ true)

pub closure_true : (n : ℕ) (held : ℕ → Bool) (d o : ℕ) → IsClosure n held d o → in_closure n held d o ≡ true
closure_true n held d o closure =
    let within = within_true n d o closure.within in
    let above = not (is_within n (suc d) (o / 2)) in
    let any = any_under held (suc d) (o / 2) in
    let why : (above || any) ≡ true = elim closure.why [
      | inl past ↦ or_left above any (not_within_true n (suc d) (o / 2) past)
      | inr some ↦ or_right above any some
    ] in
    and_from (is_within n d o) (above || any) within why

pub true_closure : (n : ℕ) (held : ℕ → Bool) (d o : ℕ) → in_closure n held d o ≡ true → IsClosure n held d o
true_closure n held d o test =
    let above = not (is_within n (suc d) (o / 2)) in
    let any = any_under held (suc d) (o / 2) in
    let parts = and_parts (is_within n d o) (above || any) test in
    record {
      within = true_within n d o parts.0;
      why = elim (or_cases above any parts.1) [
        | inl past ↦ inl (true_not_within n (suc d) (o / 2) past)
        | inr some ↦ inr some
      ];
    }

-- the law
pub closure_words : (n : ℕ) (held : ℕ → Bool) (d o : ℕ)
    → (in_closure n held d o ≡ true → IsInClosure n held d o) × (IsInClosure n held d o → in_closure n held d o ≡ true)
closure_words n held d o = (to_words, from_words)
  where
    to_words : in_closure n held d o ≡ true → IsInClosure n held d o
    to_words test =
        let closure = true_closure n held d o test in
        elim (cases_lt n (end_block_of (suc d) (o / 2))) [
          | inl past ↦ inl (record { within = closure.within; largest = past })
          | inr within ↦ elim closure.why [
            | inl past ↦ absurd (omega (arith, past, within))
            | inr some ↦
                let there = any_under-held held (suc d) (o / 2) some in
                inr (record { index = there.index; is_held = there.is_held; parent_over = there.under; parent_within = within })
          ]
        ]

    from_words : IsInClosure n held d o → in_closure n held d o ≡ true
    from_words (inl root) = closure_true n held d o (record { within = root.within; why = inl root.largest })
    from_words (inr path) =
        closure_true n held d o
        (record {
          within = omega (arith, path.parent_within, inside_up d o);
          why = inr (held-any_under held (suc d) (o / 2) path.index path.is_held path.parent_over);
        })

-- ---- the closure's own laws

-- a full root is in the closure
pub root_in_closure : (n : ℕ) (held : ℕ → Bool) (d o : ℕ) → IsFullRoot n d o → in_closure n held d o ≡ true
root_in_closure n held d o root = closure_true n held d o (record { within = root.within; why = inl root.largest })

-- so is a subtree within the length with a held block under it
pub held_in_closure : (n : ℕ) (held : ℕ → Bool) (d o : ℕ) → any_under held d o ≡ true → end_block_of d o ≤ n → in_closure n held d o ≡ true
held_in_closure n held d o any within = closure_true n held d o (record { within = within; why = inr (any_under-up held d o any) })

-- so are both halves of such a subtree
pub halves_in_closure : (n : ℕ) (held : ℕ → Bool) (d o p : ℕ) → p / 2 ≡ o → any_under held (suc d) o ≡ true → end_block_of (suc d) o ≤ n
    → in_closure n held d p ≡ true
halves_in_closure n held d o p half any within =
    let inside : end_block_of d p ≤ end_block_of (suc d) o = subst (λ (k : ℕ). end_block_of d p ≤ end_block_of (suc d) k) half (inside_up d p).last in
    let under : any_under held (suc d) (p / 2) ≡ true = ap (λ (k : ℕ). any_under held (suc d) k) half ∙ any in
    closure_true n held d p (record { within = omega (arith, within, inside); why = inr under })

-- and below a full root none other is: a node of the closure whose parent is within the length has a held block under the parent
pub closure_under : (n : ℕ) (held : ℕ → Bool) (d o p : ℕ) → p / 2 ≡ o → in_closure n held d p ≡ true → end_block_of (suc d) o ≤ n
    → any_under held (suc d) o ≡ true
closure_under n held d o p half test within =
    let parent : any_under held (suc d) (p / 2) ≡ true = elim (true_closure n held d p test).why [
      | inl past ↦
          let same : end_block_of (suc d) (p / 2) ≡ end_block_of (suc d) o = ap (λ (k : ℕ). end_block_of (suc d) k) half in
          absurd (omega (arith, past, same, within))
      | inr some ↦ some
    ] in
    sym (ap (λ (k : ℕ). any_under held (suc d) k) half) ∙ parent

-- a right half is in the closure only with its parent within the length
pub right_within : (n : ℕ) (held : ℕ → Bool) (d o : ℕ) → in_closure n held d (2 * o + 1) ≡ true → end_block_of (suc d) o ≤ n
right_within n held d o test = omega (arith, (true_closure n held d (2 * o + 1) test).within, end-suc d o)

-- where more is held, more is in the closure
pub in_closure-more : (n : ℕ) (fewer more : ℕ → Bool) → ((index : ℕ) → fewer index ≡ true → more index ≡ true) → (d o : ℕ)
    → in_closure n fewer d o ≡ true → in_closure n more d o ≡ true
in_closure-more n fewer more holds d o test =
    let closure = true_closure n fewer d o test in
    closure_true n more d o
    (record {
      within = closure.within;
      why = elim closure.why [ inl past ↦ inl past | inr some ↦ inr (any_under-more fewer more holds (suc d) (o / 2) some) ];
    })
