-- The path of a block: its nodes' numbers, the root over it, and the first stored node.
use Rattle.std.proofs.Common.{◌≡◌, ℕ, zero, suc, Bool, true, false, ◌+◌, ◌-◌, ◌*◌, ◌/◌, ◌^◌, ◌<◌, ◌≤◌, inl, inr, sym, ap, ◌∙◌, arith}
use Rattle.std.specs.Prelude.{is_some}
use Rattle.std.proofs.lemmas.Bool.{cases_eq}
use Rattle.std.proofs.lemmas.Nat.{pow-add}
use Rattle.std.proofs.Math.Nat.{div-le_of_le-mul}
use Rattle.flat_tree.specs.Subtrees.{Subtree, subtree}
use Rattle.flat_tree.specs.Roots.{full_roots_of, place_over, depth_over}
use Rattle.flat_tree.specs.declared.limits.TheConstants.{MAX_DEPTH}
use Rattle.flat_tree.proofs.OverLemmas.{root-over}
use Rattle.node_set.specs.Contents.{Content, Values, held}
use Rattle.node_set.specs.Closure.{in_closure, IsFullRoot}
use Rattle.node_set.specs.Offsets.{levels_to, need_of}
use Rattle.node_set.specs.Whole.{IsSound}
use Rattle.node_set.specs.Walks.{IsFirstStored}
use Rattle.node_set.proofs.ClosureLemmas.{root_in_closure}
use Rattle.node_set.proofs.SoundLemmas.{all_roots}
use Rattle.node_set.proofs.AppendLemmas.{all_get}
use Rattle.node_set.proofs.Stored.{over-suc}

-- places of a row above few blocks are few
pub place_fits : (index level : ℕ) → index ≤ 2 ^ MAX_DEPTH → level ≤ MAX_DEPTH → index / 2 ^ level ≤ 2 ^ (MAX_DEPTH - level)
place_fits index level few low =
    let meet : level + (MAX_DEPTH - level) ≡ MAX_DEPTH = omega (arith, low) in
    let whole : 2 ^ level * 2 ^ (MAX_DEPTH - level) ≡ 2 ^ MAX_DEPTH = sym (pow-add 2 level (MAX_DEPTH - level)) ∙ ap (λ (k : ℕ). 2 ^ k) meet in
    div-le_of_le-mul (2 ^ level) (omega (arith, few, whole))

-- the root over a block is a full root, and so in the closure
pub root_over_stored : (n : ℕ) (bits : ℕ → Bool) (index : ℕ) → index < n → in_closure n bits (depth_over n index) (index / 2 ^ depth_over n index) ≡ true
root_over_stored n bits index within =
    let root = all_get (λ (tree : Subtree). IsFullRoot n tree.depth tree.offset) (full_roots_of n) (place_over n index)
    (subtree (depth_over n index) (index / 2 ^ depth_over n index)) (all_roots n) (root-over n index within) in
    root_in_closure n bits (depth_over n index) (index / 2 ^ depth_over n index) root

-- no node of the path is to be stored below the root
pub first_is_root : (n : ℕ) (bits : ℕ → Bool) (index top at : ℕ) → index < n → top ≡ depth_over n index → top ≤ at
    → ((level : ℕ) → level < at → in_closure n bits level (index / 2 ^ level) ≡ false) → IsFirstStored n bits index top
first_is_root n bits index top at within is past none = record {
  within = omega (arith, is);
  stored = ap (λ (d : ℕ). in_closure n bits d (index / 2 ^ d)) is ∙ root_over_stored n bits index within;
  first = λ level low. none level (omega (arith, low, past));
}

module _ (n : ℕ) (bits : ℕ → Bool) (node : Values) (closed : (depth offset : ℕ) → is_some (node depth offset) ≡ in_closure n bits depth offset)
    (index levels : ℕ) (is : IsFirstStored n bits index levels) where
  -- the first stored node, looked for from some level up
  levels_from : (steps depth : ℕ) → depth + steps ≡ depth_over n index → depth ≤ levels → levels_to steps node depth (index / 2 ^ depth) + depth ≡ levels
  unfolding levels_to
  levels_from zero depth meet low = omega (arith, meet, low, is.within)
  levels_from (suc steps) depth meet low = elim (cases_eq depth levels) [
    | inl here ↦
        let stored : is_some (node depth (index / 2 ^ depth)) ≡ true =
        closed depth (index / 2 ^ depth) ∙ ap (λ (d : ℕ). in_closure n bits d (index / 2 ^ d)) here ∙ is.stored in
        rw stored (omega (arith, here))
    | inr other ↦
        let below : depth < levels = omega (arith, low, other) in
        let none : is_some (node depth (index / 2 ^ depth)) ≡ false = closed depth (index / 2 ^ depth) ∙ is.first depth below in
        let above = levels_from steps (suc depth) (omega (arith, meet)) (omega (arith, below)) in
        let same = ap (λ (o : ℕ). levels_to steps node (suc depth) o) (over-suc index depth) in
        rw none (omega (arith, above, same))
  ]

-- which is what a block needs
pub need_is : (m : Content) → IsSound m → (index levels : ℕ) → IsFirstStored m.length (held m) index levels → levels ≡ need_of m index
need_is m sound index levels is =
    let from_leaf = levels_from m.length (held m) m.node sound.closed index levels is (depth_over m.length index) 0 (omega arith) (omega arith) in
    let leaf : index / 2 ^ 0 ≡ index = omega arith in
    let same = ap (λ (o : ℕ). levels_to (depth_over m.length index) m.node 0 o) leaf in
    omega (arith, from_leaf, same)
