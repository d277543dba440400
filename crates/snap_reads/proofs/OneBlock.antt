-- Two ways up from a block to one root: one block, or two different inputs of equal hash.
use Rattle.std.proofs.Common.{◌≡◌, ℕ, ◌+◌, ◌/◌, ◌%◌, ◌==◌, if◌then◌else◌, ◌⊎◌, inl, inr, Bool, true, false, List, [], ◌∷◌, ◌++◌, length, refl, sym, ap, ◌∙◌, arith, length-append}
use Rattle.blake2b_hash.specs.Blake2b.{hash_of}
use Rattle.blake2b_hash.proofs.Hashes.{length_hash_of}
use Rattle.merkle_nodes.specs.declared.node.Twig.{Twig}
use Rattle.merkle_nodes.specs.Tree.{u64_bytes, leaf_input, leaf_of, parent_input, parent_of}
use Rattle.merkle_nodes.specs.Roots.{twig_of}
use Rattle.merkle_nodes.specs.Fold.{join, fold_from, Proves}
use Rattle.merkle_nodes.specs.Sound.{HasHash, join_input, fold_inputs, Clash}
use Rattle.merkle_nodes.proofs.Inputs.{Contains-first, Contains-later, same_or_clash, split_same}
use Rattle.node_set.proofs.Stored.{some_same}
use Rattle.core_snap.specs.declared.snapshot.Snapshot.{Snapshot}
use Rattle.core_snap.specs.Reads.{Answer, SameRead}

-- a clash with one more input of each
clash_both : (x y : List ℕ) (xs ys : List (List ℕ)) → Clash xs ys → Clash (x ∷ xs) (y ∷ ys)
clash_both x y xs ys c = record {
  one = c.one;
  other = c.other;
  in_xs = Contains-later x c.one xs c.in_xs;
  in_ys = Contains-later y c.other ys c.in_ys;
  differ = c.differ;
  equal = c.equal;
}

-- equal inputs of parents have equal left halves, where those have hashes, whatever is to their right
left_same : (l r m s : Twig) → HasHash l → HasHash m → parent_input l r ≡ parent_input m s → l.hash ≡ m.hash
left_same l r m s wl wm same =
    let hashes = split_same (1 ∷ u64_bytes (l.size + r.size)) (1 ∷ u64_bytes (m.size + s.size)) (l.hash ++ r.hash) (m.hash ++ s.hash) refl same in
    (split_same l.hash m.hash r.hash s.hash (wl ∙ sym wm) hashes.1).0

-- and equal right halves
right_same : (l r m s : Twig) → HasHash r → HasHash s → parent_input l r ≡ parent_input m s → r.hash ≡ s.hash
right_same l r m s wr ws same =
    let hashes = split_same (1 ∷ u64_bytes (l.size + r.size)) (1 ∷ u64_bytes (m.size + s.size)) (l.hash ++ r.hash) (m.hash ++ s.hash) refl same in
    let lengths = sym (length-append l.hash r.hash) ∙ ap length hashes.1 ∙ length-append m.hash s.hash in
    let width : length l.hash ≡ length m.hash = omega (arith, lengths, wr, ws) in
    (split_same l.hash m.hash r.hash s.hash width hashes.1).1

join-hash : (offset : ℕ) (node sibling : Twig) → (join offset node sibling).hash ≡ hash_of (join_input offset node sibling)
join-hash offset node sibling =
    elim (offset % 2 == 1) as (λ (b : Bool). (if b then parent_of sibling node else parent_of node sibling).hash
    ≡ hash_of (if b then parent_input sibling node else parent_input node sibling)) [
      | true ↦ refl
      | false ↦ refl
    ]

-- equal inputs on two ways up are of nodes with equal hashes, whatever the siblings are
own_same : (offset : ℕ) (x s y t : Twig) → HasHash x → HasHash y → join_input offset x s ≡ join_input offset y t → x.hash ≡ y.hash
own_same offset x s y t wx wy same = by_half (offset % 2 == 1) same
  where
    by_half : (right : Bool) → (if right then parent_input s x else parent_input x s) ≡ (if right then parent_input t y else parent_input y t) → x.hash ≡ y.hash
    by_half true same = right_same s x t y wx wy same
    by_half false same = left_same x s y t wx wy same

-- two ways up to one hash begin with one hash
ways_same : (offset : ℕ) (x y : Twig) (xs ys : List Twig) → HasHash x → HasHash y → length xs ≡ length ys
    → (fold_from offset x xs).hash ≡ (fold_from offset y ys).hash → (x.hash ≡ y.hash) ⊎ Clash (fold_inputs offset x xs) (fold_inputs offset y ys)
unfolding fold_from fold_inputs
ways_same offset x y [] [] wx wy long same = inl same
ways_same offset x y [] (t ∷ ys) wx wy long same = absurd (omega (arith, long))
ways_same offset x y (s ∷ xs) [] wx wy long same = absurd (omega (arith, long))
ways_same offset x y (s ∷ xs) (t ∷ ys) wx wy long same =
    let wide = λ (node sibling : Twig). ap length (join-hash offset node sibling) ∙ length_hash_of _ in
    elim (ways_same (offset / 2) (join offset x s) (join offset y t) xs ys (wide x s) (wide y t) (omega (arith, long)) same) [
      | inr clash ↦ inr (clash_both _ _ _ _ clash)
      | inl equal ↦
          let hashes = sym (join-hash offset x s) ∙ equal ∙ join-hash offset y t in
          elim (same_or_clash _ _ (join_input offset x s) (join_input offset y t)
          (Contains-first _ (fold_inputs (offset / 2) (join offset x s) xs)) (Contains-first _ (fold_inputs (offset / 2) (join offset y t) ys)) hashes) [
            | inr clash ↦ inr clash
            | inl inputs ↦ inl (own_same offset x s y t wx wy inputs)
          ]
    ]

-- two answers that are proved under one snapshot
pub one_block : (snap : Snapshot) (index : ℕ) (one other : Answer) → Proves snap.length snap.roots index one.block one.trail
    → Proves snap.length snap.roots index other.block other.trail → SameRead snap index one other
one_block snap index one other is is_too =
    let top = some_same _ _ (sym is.over ∙ is_too.over) in
    let folds = is.folds ∙ ap twig_of top ∙ sym is_too.folds in
    let leaves = leaf_input one.block ∷ fold_inputs index (leaf_of one.block) one.trail in
    let others = leaf_input other.block ∷ fold_inputs index (leaf_of other.block) other.trail in
    elim (ways_same index (leaf_of one.block) (leaf_of other.block) one.trail other.trail (length_hash_of _) (length_hash_of _) (is.path ∙ sym is_too.path) (ap (λ (w : Twig). w.hash) folds)) [
      | inr clash ↦ inr (clash_both _ _ _ _ (clash_both _ _ _ _ clash))
      | inl equal ↦
          elim (same_or_clash leaves others (leaf_input one.block) (leaf_input other.block) (Contains-first _ _) (Contains-first _ _) equal) [
            | inr clash ↦ inr (clash_both _ _ _ _ clash)
            | inl inputs ↦ inl (split_same (0 ∷ u64_bytes (length one.block)) (0 ∷ u64_bytes (length other.block)) one.block other.block refl inputs).1
          ]
    ]
