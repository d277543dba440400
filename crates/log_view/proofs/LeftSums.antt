-- The left siblings that a view gives, where it shows its content.
use Rattle.std.proofs.Common.{◌≡◌, ℕ, zero, suc, ◌+◌, ◌-◌, ◌/◌, ◌%◌, ◌^◌, ◌==◌, if◌then◌else◌, inl, inr, IsTrue, refl, sym, ap, subst, ◌∙◌, arith, add-one}
use Rattle.std.proofs.lemmas.Bool.{cases_eq, eq-eqb, ne_eqb}
use Rattle.std.proofs.lemmas.Nat.{shr-shr}
use Rattle.flat_tree.specs.Roots.{depth_over}
use Rattle.merkle_nodes.specs.declared.node.Twig.{Twig}
use Rattle.merkle_nodes.specs.Roots.{twig_of}
use Rattle.node_set.specs.Contents.{Values, twig_at}
use Rattle.node_set.specs.Offsets.{left_step, left_bytes, offset_of}
use Rattle.node_set.proofs.RootTruth.{twig_at-some}
use Rattle.log_view.specs.Views.{Source}
use Rattle.log_view.specs.Walks.{IsLeftAt, AreLeft, BeginsAt}

-- the sums of so many levels with that of the next one
left_bytes-more : (levels : ℕ) (node : Values) (depth offset : ℕ)
    → left_bytes (suc levels) node depth offset ≡ left_bytes levels node depth offset + left_step node (depth + levels) (offset / 2 ^ levels)
unfolding left_bytes
left_bytes-more zero node depth offset =
    let here : depth + 0 ≡ depth = omega arith in
    let itself : offset / 2 ^ 0 ≡ offset = omega arith in
    let same = ap (λ (d : ℕ). left_step node d (offset / 2 ^ 0)) here ∙ ap (left_step node depth) itself in
    omega (arith, same)
left_bytes-more (suc levels) node depth offset =
    let above = left_bytes-more levels node (suc depth) (offset / 2) in
    let next : suc depth + levels ≡ depth + suc levels = omega arith in
    let half : offset / 2 / 2 ^ levels ≡ offset / 2 ^ suc levels = shr-shr offset 1 levels ∙ ap (λ (k : ℕ). offset / 2 ^ k) (omega arith) in
    let same = ap (λ (d : ℕ). left_step node d (offset / 2 / 2 ^ levels)) next ∙ ap (left_step node (depth + suc levels)) half in
    omega (arith, above, same)

-- from a block's leaf on
pub left_up : (node : Values) (level index : ℕ) → left_bytes (suc level) node 0 index ≡ left_bytes level node 0 index + left_step node level (index / 2 ^ level)
left_up node level index =
    let flat : 0 + level ≡ level = omega arith in
    left_bytes-more level node 0 index ∙ ap (λ (d : ℕ). left_bytes level node 0 index + left_step node d (index / 2 ^ level)) flat

module _ (s : Source) (shows : IsTrue s.shows) (index : ℕ) where
  step_shown : (level own : ℕ) → IsLeftAt s index level own → own ≡ left_step s.content.node level (index / 2 ^ level)
  step_shown level own is =
      let offset = index / 2 ^ level in
      let size = (twig_at s.content.node level (offset - 1)).size in
      elim (cases_eq (offset % 2) 1) [
        | inl right ↦
            let given = is.right_half right in
            let value = twig_at-some s.content.node level (offset - 1) (twig_of given.0) (given.1.shown shows level (offset - 1) refl) in
            let taken : (if offset % 2 == 1 then size else 0) ≡ size = rw (eq-eqb (offset % 2) 1 right) refl in
            given.2 ∙ sym (ap (λ (t : Twig). t.size) value) ∙ sym taken
        | inr left ↦
            let taken : (if offset % 2 == 1 then size else 0) ≡ 0 = rw (ne_eqb (offset % 2) 1 left) refl in
            is.left_half (omega (arith, left)) ∙ sym taken
      ]

  -- the bytes of the left siblings that are given are those of the content's
  pub left_shown : (levels bytes : ℕ) → AreLeft s index levels bytes → bytes ≡ left_bytes levels s.content.node 0 index
  unfolding AreLeft left_bytes
  left_shown zero bytes is = is
  left_shown (suc level) bytes (lower, own, below, here, sum) =
      let so_far = left_shown level lower below in
      let step = step_shown level own here in
      omega (arith, sum, so_far, step, left_up s.content.node level index)

  pub begins_shown : (byte : ℕ) → BeginsAt s index byte → byte ≡ offset_of s.content index
  begins_shown byte (left, are, sum) =
      let whole = left_shown (depth_over s.content.length index) left are in
      omega (arith, sum, whole)

-- one level more
pub left_more : (s : Source) (index level lower own : ℕ) → AreLeft s index level lower → IsLeftAt s index level own → AreLeft s index (level + 1) (lower + own)
unfolding AreLeft
left_more s index level lower own below here = rw add-one (lower, own, below, here, refl)

-- none yet, and all where the loop has ended
pub left_none : (s : Source) (index : ℕ) → AreLeft s index 0 0
unfolding AreLeft
left_none s index = refl

pub left_all : (s : Source) (index level levels bytes : ℕ) → level ≡ levels → AreLeft s index level bytes → AreLeft s index levels bytes
left_all s index level levels bytes ended are = subst (λ (l : ℕ). AreLeft s index l bytes) ended are
