-- Values joined of known ones: where all known values are sound, a parent's joined value is that of its halves.
use Rattle.std.proofs.Common.{◌≡◌, ℕ, zero, suc, Bool, true, false, ◌+◌, ◌*◌, ◌/◌, ◌<◌, ◌≤◌, inl, inr, List, length, Option, Some, None, refl, sym, ap, subst, ◌∙◌, arith, add-one}
use Rattle.std.specs.Prelude.{is_some}
use Rattle.std.proofs.lemmas.Bool.{cases_lt, cases_Bool}
use Rattle.flat_tree.specs.Subtrees.{first_block_of, end_block_of}
use Rattle.flat_tree.specs.Covers.{cover_of}
use Rattle.flat_tree.specs.declared.limits.TheConstants.{MAX_BLOCKS, MAX_FORK, MAX_CORE_BYTES}
use Rattle.flat_tree.proofs.NumberLemmas.{leaf}
use Rattle.blake2b_hash.proofs.Hashes.{length_hash_of}
use Rattle.merkle_nodes.specs.declared.node.Twig.{Twig}
use Rattle.merkle_nodes.specs.Tree.{parent_of}
use Rattle.merkle_nodes.specs.Joined.{parent_if, or_value, joined}
use Rattle.node_set.specs.Contents.{Content, Blocks, Values, holds, held, roots_at, roots, bytes_under}
use Rattle.node_set.specs.Closure.{any_under, in_closure, is_between, IsFullRoot}
use Rattle.node_set.specs.Whole.{BlocksFit, PairsAgree, LeavesAgree, IsSound, IsWhole}
use Rattle.node_set.specs.Changes.{content_on, IsSigned}
use Rattle.node_set.proofs.ClosureLemmas.{half_cases, half_left, half_right, spans_meet, any_under-held, held-any_under, true_closure, closure_under, halves_in_closure, root_in_closure}
use Rattle.node_set.proofs.CoverLemmas.{IsBetween, true_between, not_between, between_true, IsCover}
use Rattle.node_set.proofs.CoverSums.{sum_over, AddsUp, sum_cover-split}
use Rattle.node_set.proofs.SoundLemmas.{stored_value, size_of, size_stored, IsComplete, IsSoundOn, sound_on, roots_same, roots_on, bytes_of_roots, fit_below, whole_signed}

-- ---- one step

-- a known value is the joined one
pub joined-known : (known : Values) (d o : ℕ) (twig : Twig) → known d o ≡ Some twig → joined known d o ≡ Some twig
unfolding joined
joined-known known zero o twig is = is
joined-known known (suc d) o twig is = rw is refl

-- else it is the parent of the halves' joined values
pub joined-parent : (known : Values) (d o : ℕ) (left right : Twig) → known (suc d) o ≡ None → joined known d (2 * o) ≡ Some left
    → joined known d (2 * o + 1) ≡ Some right → joined known (suc d) o ≡ Some (parent_of left right)
unfolding joined
joined-parent known d o left right unknown left_is right_is = rw (unknown, left_is, right_is) refl

-- the parent that two values make has a hash of 32 bytes
parent_hash : (left right : Option Twig) (twig : Twig) → parent_if left right ≡ Some twig → length twig.hash ≡ 32
parent_hash (Some left) (Some right) twig is = let same : parent_of left right ≡ twig = cc in ap (λ (t : Twig). length t.hash) (sym same) ∙ length_hash_of _
parent_hash (Some left) None twig is = cc
parent_hash None right twig is = cc

-- where known hashes have 32 bytes, so have the joined ones
pub joined_hash : (known : Values) → ((d o : ℕ) (twig : Twig) → known d o ≡ Some twig → length twig.hash ≡ 32)
    → (d o : ℕ) (twig : Twig) → joined known d o ≡ Some twig → length twig.hash ≡ 32
unfolding joined
joined_hash known wide zero o twig is = wide zero o twig is
joined_hash known wide (suc d) o twig is = either (known (suc d) o) refl is
  where
    either : (own : Option Twig) → known (suc d) o ≡ own → or_value own (parent_if (joined known d (2 * o)) (joined known d (2 * o + 1))) ≡ Some twig
        → length twig.hash ≡ 32
    either (Some other) here same = wide (suc d) o twig (here ∙ same)
    either None here same = parent_hash (joined known d (2 * o)) (joined known d (2 * o + 1)) twig same

-- ---- below a length

-- the known values below a length are the old ones
abbrev pub KeepsBelow : ℕ → Values → Values → Type 0
KeepsBelow n old known = (d o : ℕ) → end_block_of d o ≤ n → known d o ≡ old d o

-- two values make a parent only where both are there
joined_none : (old : Values) (d o : ℕ) (left right : Option Twig) → PairsAgree old → old (suc d) o ≡ None → old d (2 * o) ≡ left → old d (2 * o + 1) ≡ right
    → parent_if left right ≡ None
joined_none old d o (Some left) (Some right) pairs none left_is right_is =
    let clash : None ≡ Some (parent_of left right) = sym none ∙ ap (λ (k : ℕ). old k o) (sym (add-one d)) ∙ pairs d o left right left_is right_is in
    cc
joined_none old d o (Some left) None pairs none left_is right_is = refl
joined_none old d o None right pairs none left_is right_is = refl

-- where the old pairs agree, so are the joined ones
pub joined_below : (n : ℕ) (old known : Values) → PairsAgree old → KeepsBelow n old known → (d o : ℕ) → end_block_of d o ≤ n → joined known d o ≡ old d o
unfolding joined
joined_below n old known pairs keeps zero o within = keeps zero o within
joined_below n old known pairs keeps (suc d) o within =
    let meet = spans_meet d o in
    let left = joined_below n old known pairs keeps d (2 * o) (omega (arith, within, meet)) in
    let right = joined_below n old known pairs keeps d (2 * o + 1) (omega (arith, within, meet)) in
    rw (keeps (suc d) o within, left, right) (either (old (suc d) o) refl)
  where
    either : (own : Option Twig) → old (suc d) o ≡ own → or_value own (parent_if (old d (2 * o)) (old d (2 * o + 1))) ≡ own
    either (Some twig) here = refl
    either None here = joined_none old d o (old d (2 * o)) (old d (2 * o + 1)) pairs here refl refl

-- ---- a longer log

-- both halves have joined values, and the parent has no known one
pub record IsPaired (known : Values) (d o : ℕ) : Type 0 where
  pub none : known (suc d) o ≡ None
  pub left : is_some (joined known d (2 * o)) ≡ true
  pub right : is_some (joined known d (2 * o + 1)) ≡ true

-- the known values are the old ones below the old length n, none over it, and such behind it that each subtree of the new part's
-- cover has a joined value, and each pair over a held block too
pub record IsLonger (n to : ℕ) (block : Blocks) (old known : Values) : Type 0 where
  pub longer : n ≤ to
  pub before : KeepsBelow n old known
  pub over : (d o : ℕ) → first_block_of (suc d) o < n → n < end_block_of (suc d) o → end_block_of (suc d) o ≤ to → known (suc d) o ≡ None
  pub cover : (d o : ℕ) → IsCover n to d o → is_some (joined known d o) ≡ true
  pub behind : (d o : ℕ) → n ≤ first_block_of (suc d) o → end_block_of (suc d) o ≤ to → any_under (holds block) (suc d) o ≡ true → IsPaired known d o

-- a pair's parent has the joined value of its halves, and the sum of their bytes
pub paired_parent : (known : Values) (d o : ℕ) → IsPaired known d o → is_some (joined known (suc d) o) ≡ true
paired_parent known d o paired =
    let left = stored_value (joined known d (2 * o)) paired.left in
    let right = stored_value (joined known d (2 * o + 1)) paired.right in
    ap is_some (joined-parent known d o left.0 right.0 paired.none left.1 right.1)

pub paired_size : (known : Values) (d o : ℕ) → IsPaired known d o
    → size_of (joined known) (suc d) o ≡ size_of (joined known) d (2 * o) + size_of (joined known) d (2 * o + 1)
paired_size known d o paired =
    let left = stored_value (joined known d (2 * o)) paired.left in
    let right = stored_value (joined known d (2 * o + 1)) paired.right in
    let parent = size_stored (joined known) (suc d) o _ (joined-parent known d o left.0 right.0 paired.none left.1 right.1) in
    omega (arith, parent, size_stored (joined known) d (2 * o) left.0 left.1, size_stored (joined known) d (2 * o + 1) right.0 right.1)

module _ (m : Content) (to : ℕ) (block : Blocks) (known : Values) (sound : IsSound m) (longer : IsLonger m.length to block m.node known) where
  below_same : (d o : ℕ) → end_block_of d o ≤ m.length → joined known d o ≡ m.node d o
  below_same = joined_below m.length m.node known sound.pairs longer.before

  root_joined : (d o : ℕ) → IsFullRoot m.length d o → is_some (joined known d o) ≡ true
  root_joined d o root = ap is_some (below_same d o root.within) ∙ sound.closed d o ∙ root_in_closure m.length (held m) d o root

  -- the halves of a subtree over the old end: the left is a full root or over it, the right is over it or behind
  over_left : (d o : ℕ) → m.length < end_block_of (suc d) o → end_block_of d (2 * o) ≤ m.length → is_some (joined known d (2 * o)) ≡ true
  over_left d o past within =
      let parent : end_block_of (suc d) (2 * o / 2) ≡ end_block_of (suc d) o = ap (λ (k : ℕ). end_block_of (suc d) k) (half_left o) in
      root_joined d (2 * o) (record { within = within; largest = omega (arith, past, parent) })

  over_right : (d o : ℕ) → first_block_of (suc d) o < m.length → end_block_of (suc d) o ≤ to → m.length ≤ first_block_of d (2 * o + 1)
      → is_some (joined known d (2 * o + 1)) ≡ true
  over_right d o before within behind =
      let here : IsBetween m.length to d (2 * o + 1) = record { first = behind; last = omega (arith, within, spans_meet d o) } in
      let apart : is_between m.length to (suc d) ((2 * o + 1) / 2) ≡ false = not_between m.length to (suc d) ((2 * o + 1) / 2) (λ between.
      let same : first_block_of (suc d) ((2 * o + 1) / 2) ≡ first_block_of (suc d) o = ap (λ (k : ℕ). first_block_of (suc d) k) (half_right o) in
      omega (arith, between.first, same, before)) in
      longer.cover d (2 * o + 1) (record { within = between_true m.length to d (2 * o + 1) here; largest = apart })

  over_paired : (d o : ℕ) → first_block_of (suc d) o < m.length → m.length < end_block_of (suc d) o → end_block_of (suc d) o ≤ to → IsPaired known d o
  over_paired zero o before past within =
      let meet = spans_meet zero o in
      let middle = leaf (2 * o) in
      record {
        none = longer.over zero o before past within;
        left = over_left zero o past (omega (arith, before, meet, middle));
        right = over_right zero o before within (omega (arith, past, meet, leaf (2 * o + 1)));
      }
  over_paired (suc d) o before past within =
      let meet = spans_meet (suc d) o in
      record {
        none = longer.over (suc d) o before past within;
        left = elim (cases_lt m.length (end_block_of (suc d) (2 * o))) [
          | inr root ↦ over_left (suc d) o past root
          | inl over ↦ paired_parent known d (2 * o) (over_paired d (2 * o) (omega (arith, before, meet)) over (omega (arith, within, meet)))
        ];
        right = elim (cases_lt (first_block_of (suc d) (2 * o + 1)) m.length) [
          | inr behind ↦ over_right (suc d) o before within behind
          | inl over ↦ paired_parent known d (2 * o + 1) (over_paired d (2 * o + 1) over (omega (arith, past, meet)) (omega (arith, within, meet)))
        ];
      }

  -- all of the new closure has a joined value
  behind_full : (d o : ℕ) → in_closure to (holds block) d o ≡ true → m.length ≤ first_block_of d o → is_some (joined known d o) ≡ true
  behind_full d o test behind =
      let here : IsBetween m.length to d o = record { first = behind; last = (true_closure to (holds block) d o test).within } in
      elim (cases_Bool (is_between m.length to (suc d) (o / 2))) [
        | inr apart ↦ longer.cover d o (record { within = between_true m.length to d o here; largest = apart })
        | inl above ↦
            let parent = true_between m.length to (suc d) (o / 2) above in
            let paired = longer.behind d (o / 2) parent.first parent.last (closure_under to (holds block) d (o / 2) o refl test parent.last) in
            elim (half_cases o) [
              | inl left ↦ subst (λ (k : ℕ). is_some (joined known d k) ≡ true) (sym left) paired.left
              | inr right ↦ subst (λ (k : ℕ). is_some (joined known d k) ≡ true) (sym right) paired.right
            ]
      ]

  over_full : (d o : ℕ) → end_block_of d o ≤ to → first_block_of d o < m.length → m.length < end_block_of d o → is_some (joined known d o) ≡ true
  over_full zero o within before past = absurd (omega (arith, before, past, leaf o))
  over_full (suc d) o within before past = paired_parent known d o (over_paired d o before past within)

  below_full : ((index : ℕ) → index < m.length → holds block index ≡ true → held m index ≡ true) → (d o : ℕ) → in_closure to (holds block) d o ≡ true
      → end_block_of d o ≤ m.length → is_some (joined known d o) ≡ true
  below_full old d o test within = elim (cases_lt m.length (end_block_of (suc d) (o / 2))) [
    | inl past ↦ root_joined d o (record { within = within; largest = past })
    | inr above ↦
        let there = any_under-held (holds block) (suc d) (o / 2) (closure_under to (holds block) d (o / 2) o refl test (omega (arith, above, longer.longer))) in
        let any = held-any_under (held m) (suc d) (o / 2) there.index (old there.index (omega (arith, there.under.1, above)) there.is_held) there.under in
        ap is_some (below_same d o within) ∙ sound.closed d o ∙ halves_in_closure m.length (held m) d (o / 2) o refl any above
  ]

  joined_pairs : (d o : ℕ) (left right : Twig) → end_block_of (suc d) o ≤ to → any_under (holds block) (suc d) o ≡ true
      → joined known d (2 * o) ≡ Some left → joined known d (2 * o + 1) ≡ Some right → joined known (suc d) o ≡ Some (parent_of left right)
  joined_pairs d o left right within any left_is right_is = elim (cases_lt m.length (end_block_of (suc d) o)) [
    | inr below ↦
        let meet = spans_meet d o in
        let left_old = sym (below_same d (2 * o) (omega (arith, below, meet))) ∙ left_is in
        let right_old = sym (below_same d (2 * o + 1) (omega (arith, below, meet))) ∙ right_is in
        below_same (suc d) o below ∙ ap (λ (k : ℕ). m.node k o) (sym (add-one d)) ∙ sound.pairs d o left right left_old right_old
    | inl past ↦ elim (cases_lt (first_block_of (suc d) o) m.length) [
      | inl before ↦ joined-parent known d o left right (longer.over d o before past within) left_is right_is
      | inr behind ↦ joined-parent known d o left right (longer.behind d o behind within any).none left_is right_is
    ]
  ]

  -- where the blocks held below the old length were held before, the joined values are complete
  pub joined_complete : ((index : ℕ) → index < m.length → holds block index ≡ true → held m index ≡ true) → IsComplete to block (joined known)
  joined_complete old = record { full = full; pairs = joined_pairs }
    where
      full : (d o : ℕ) → in_closure to (holds block) d o ≡ true → is_some (joined known d o) ≡ true
      full d o test = elim (cases_lt m.length (end_block_of d o)) [
        | inr within ↦ below_full old d o test within
        | inl past ↦ elim (cases_lt (first_block_of d o) m.length) [
          | inr behind ↦ behind_full d o test behind
          | inl before ↦ over_full d o (true_closure to (holds block) d o test).within before past
        ]
      ]

  -- the roots have the bytes of the old roots and of the new part's cover
  pub joined_bytes : bytes_under (roots_at (joined known) to) ≡ bytes_under (roots m) + sum_over (size_of (joined known)) (cover_of m.length to)
  joined_bytes =
      let adds : AddsUp (size_of (joined known)) 0 m.length to = λ d o low before past within. paired_size known d o (over_paired d o before past within) in
      let split = sum_cover-split (size_of (joined known)) 0 m.length to (omega arith) longer.longer adds in
      let same : roots_at (joined known) m.length ≡ roots m = roots_same m.length (joined known) m.node (λ d o root. below_same d o root.within) in
      omega (arith, split, bytes_of_roots (joined known) to, bytes_of_roots (joined known) m.length, ap bytes_under same)

-- ---- sound for a longer log

-- the blocks below the old length are held as before, and the values of the rest agree, fit, and keep the limits
pub record IsExtended (m : Content) (to : ℕ) (block : Blocks) (known : Values) : Type 0 where
  pub longer : IsLonger m.length to block m.node known
  pub old : (index : ℕ) → index < m.length → holds block index ≡ true → held m index ≡ true
  pub blocks : BlocksFit to block
  pub leaves : LeavesAgree block (joined known)
  pub hashes : (d o : ℕ) (twig : Twig) → known d o ≡ Some twig → length twig.hash ≡ 32
  pub bytes : bytes_under (roots m) + sum_over (size_of (joined known)) (cover_of m.length to) ≤ MAX_CORE_BYTES

pub extended_bytes : (m : Content) (to : ℕ) (block : Blocks) (known : Values) → IsSound m → IsExtended m to block known
    → bytes_under (roots_at (joined known) to) ≤ MAX_CORE_BYTES
extended_bytes m to block known sound extended = omega (arith, joined_bytes m to block known sound extended.longer, extended.bytes)

pub extended_sound : (m : Content) (to : ℕ) (block : Blocks) (known : Values) → IsSound m → IsExtended m to block known → IsSoundOn to block (joined known)
extended_sound m to block known sound extended =
    let complete = joined_complete m to block known sound extended.longer extended.old in
    record {
      blocks = extended.blocks;
      complete = complete;
      leaves = extended.leaves;
      fit = fit_below to block (joined known) complete (extended_bytes m to block known sound extended) (joined_hash known extended.hashes);
    }

-- so it is whole under a signed head
pub extended_whole : (accepts : List ℕ → List ℕ → Bool) (m : Content) (to : ℕ) (signature : List ℕ) (block : Blocks) (known : Values) → IsSound m
    → m.fork ≤ MAX_FORK → IsExtended m to block known → to ≤ MAX_BLOCKS → IsSigned accepts (content_on m.fork to signature block (joined known))
    → IsWhole accepts (content_on m.fork to signature block (joined known))
extended_whole accepts m to signature block known sound fork extended few signed =
    let after = content_on m.fork to signature block (joined known) in
    let same : bytes_under (roots after) ≡ bytes_under (roots_at (joined known) to) = ap bytes_under (roots_on to block (joined known)) in
    whole_signed accepts after (sound_on to block (joined known) m.fork signature (extended_sound m to block known sound extended)) few fork
    (omega (arith, same, extended_bytes m to block known sound extended)) signed
