-- The subtrees over a block: those up to its root are within the length, and those above pass it.
use Rattle.std.proofs.Common.{◌≡◌, ℕ, zero, suc, ◌+◌, ◌-◌, ◌/◌, ◌^◌, ◌<◌, ◌≤◌, inl, inr, ap, subst, arith}
use Rattle.std.proofs.lemmas.Bool.{cases_lt}
use Rattle.flat_tree.specs.Subtrees.{Subtree, subtree, end_block_of}
use Rattle.flat_tree.specs.Roots.{full_roots_of, place_over, depth_over}
use Rattle.flat_tree.proofs.OverLemmas.{root-over}
use Rattle.node_set.specs.Closure.{IsFullRoot}
use Rattle.node_set.proofs.AppendLemmas.{all_get}
use Rattle.node_set.proofs.ClosureLemmas.{IsInside, inside_up}
use Rattle.node_set.proofs.SoundLemmas.{all_roots}
use Rattle.node_set.proofs.Stored.{over-suc}
use Rattle.proof_check.specs.Growth.{last_over}

-- the root over a block is a full root
pub full_root_over : (n index : ℕ) → index < n → IsFullRoot n (depth_over n index) (index / 2 ^ depth_over n index)
full_root_over n index within =
    all_get (λ (tree : Subtree). IsFullRoot n tree.depth tree.offset) (full_roots_of n) (place_over n index)
    (subtree (depth_over n index) (index / 2 ^ depth_over n index)) (all_roots n) (root-over n index within)

-- a subtree over a block is inside the higher ones
pub nested : (index d k : ℕ) → IsInside d (index / 2 ^ d) (d + k) (index / 2 ^ (d + k))
nested index d zero =
    let same : d ≡ d + 0 = omega arith in
    subst (λ (e : ℕ). IsInside d (index / 2 ^ d) e (index / 2 ^ e)) same (record { first = omega arith; last = omega arith })
nested index d (suc k) =
    let lower = nested index d k in
    let up = inside_up (d + k) (index / 2 ^ (d + k)) in
    let here : IsInside d (index / 2 ^ d) (suc (d + k)) (index / 2 ^ (d + k) / 2) =
    record { first = omega (arith, lower.first, up.first); last = omega (arith, lower.last, up.last) } in
    let same : suc (d + k) ≡ d + suc k = omega arith in
    subst (λ (e : ℕ). IsInside d (index / 2 ^ d) e (index / 2 ^ e)) same
    (subst (λ (o : ℕ). IsInside d (index / 2 ^ d) (suc (d + k)) o) (over-suc index (d + k)) here)

pub nested_le : (index d e : ℕ) → d ≤ e → IsInside d (index / 2 ^ d) e (index / 2 ^ e)
nested_le index d e low =
    let meet : d + (e - d) ≡ e = omega (arith, low) in
    subst (λ (k : ℕ). IsInside d (index / 2 ^ d) k (index / 2 ^ k)) meet (nested index d (e - d))

pub over_within : (n index level : ℕ) → index < n → level ≤ depth_over n index → end_block_of level (index / 2 ^ level) ≤ n
over_within n index level within low =
    let root = full_root_over n index within in
    let inside = nested_le index level (depth_over n index) low in
    omega (arith, root.within, inside.last)

pub over_past : (n index level : ℕ) → index < n → depth_over n index < level → n < end_block_of level (index / 2 ^ level)
over_past n index level within high =
    let top = depth_over n index in
    let root = full_root_over n index within in
    let inside = nested_le index (suc top) level (omega (arith, high)) in
    let same : end_block_of (suc top) (index / 2 ^ top / 2) ≡ end_block_of (suc top) (index / 2 ^ suc top) = ap (end_block_of (suc top)) (over-suc index top) in
    omega (arith, root.largest, same, inside.last)

-- the root in a longer log is no lower
pub deeper : (base to index : ℕ) → index < base → base ≤ to → depth_over base index ≤ depth_over to index
deeper base to index within longer = elim (cases_lt (depth_over to index) (depth_over base index)) [
  | inr fits ↦ fits
  | inl lower ↦ absurd (omega (
    arith,
    over_past to index (depth_over base index) (omega (arith, within, longer)) lower,
    over_within base index (depth_over base index) within (omega arith),
    longer,
  ))
]

-- the next subtree over a log's last block: it is over the end, and within the longer log
pub record IsJoint (base to level : ℕ) : Type 0 where
  pub within : end_block_of (suc level) (last_over base (suc level)) ≤ to
  pub past : base < end_block_of (suc level) (last_over base (suc level))

pub joint : (base to low level : ℕ) → 0 < base → base < to → low ≡ depth_over base (base - 1) → low ≤ level → level < depth_over to (base - 1) → IsJoint base to level
joint base to low level some longer low_is from below = record {
  within = over_within to (base - 1) (suc level) (omega (arith, some, longer)) (omega (arith, below));
  past = over_past base (base - 1) (suc level) (omega (arith, some)) (omega (arith, low_is, from));
}
