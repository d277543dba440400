-- A sound content stays sound where another log replaces its own: the roots are those that came, and the blocks under the stored
-- front of them stay.
use Rattle.std.proofs.Common.{◌≡◌, ℕ, suc, true, ◌+◌, ◌*◌, ◌/◌, ◌^◌, ◌<◌, ◌≤◌, inl, inr, List, length, Option, Some, None, refl, sym, ap, subst, ◌∙◌, arith, add-one, nat_lt}
use Rattle.std.specs.Prelude.{is_some}
use Rattle.std.specs.List.{AllByRecursion, Contains}
use Rattle.std.proofs.lemmas.Bool.{cases_lt, cases_eq, cases_Bool, ltb-true}
use Rattle.flat_tree.specs.Subtrees.{Subtree, subtree, end_block_of}
use Rattle.flat_tree.specs.Roots.{full_roots_of, depth_over}
use Rattle.flat_tree.proofs.NumberLemmas.{leaf, inside_of, inside_only}
use Rattle.flat_tree.proofs.CoverLemmas.{cover-full}
use Rattle.flat_tree.proofs.RootLemmas.{tile-full}
use Rattle.merkle_nodes.specs.declared.node.Twig.{Twig}
use Rattle.merkle_nodes.specs.Tree.{leaf_of, parent_of}
use Rattle.merkle_nodes.specs.Bundle.{TwigFits}
use Rattle.merkle_nodes.specs.Joined.{or_value, value_in}
use Rattle.node_set.specs.Contents.{Content, Blocks, Values, holds, held}
use Rattle.node_set.specs.Closure.{any_under, in_closure, IsUnder, IsFullRoot}
use Rattle.node_set.specs.Whole.{IsSound}
use Rattle.node_set.specs.Changes.{closed, blocks_below}
use Rattle.node_set.proofs.AppendLemmas.{all_so}
use Rattle.node_set.proofs.ClosureLemmas.{half_left, half_right, true_closure, any_under-held, held-any_under, any_under-more, halves_in_closure, closure_under}
use Rattle.node_set.proofs.CoverLemmas.{all_at, between_true, not_between, cover_has}
use Rattle.node_set.proofs.RootTruth.{some_or_none}
use Rattle.node_set.proofs.SoundLemmas.{stored_value, IsSoundOn, sound_on, closed_some, all_roots}
use Rattle.node_set.proofs.Stored.{over-suc, stored_within}
use Rattle.node_set.proofs.UpgradeLemmas.{value_in-some, value_in-has}
use Rattle.core_forks.specs.Reorganise.{kept_of, reorganise_content}
use Rattle.proof_check.proofs.Overs.{full_root_over, nested_le, over_within, over_past}
use Rattle.judge_laws.proofs.KeptRoots.{IsKept, kept_over, kept-bound}

-- a block below what is kept
pub blocks_below-some : (kept : ℕ) (block : Blocks) (index : ℕ) (bytes : List ℕ) → blocks_below kept block index ≡ Some bytes
    → (index < kept) × (block index ≡ Some bytes)
blocks_below-some kept block index bytes is = elim (cases_Bool (nat_lt index kept)) [
  | inl low ↦ let same : blocks_below kept block index ≡ block index = rw low refl in (ltb-true index kept low, sym same ∙ is)
  | inr past ↦ let none : blocks_below kept block index ≡ None = rw past refl in let clash : None ≡ Some bytes = sym none ∙ is in cc
]

-- a full root is among the full roots
root_contained : (n d o : ℕ) → IsFullRoot n d o → Contains (full_roots_of n) (subtree d o)
root_contained n d o root =
    subst (λ (trees : List Subtree). Contains trees (subtree d o)) (cover-full n)
    (cover_has 0 n d o (omega arith) (record {
      within = between_true 0 n d o (record { first = omega arith; last = root.within });
      largest = not_between 0 n (suc d) (o / 2) (λ between. omega (arith, between.last, root.largest));
    }))

module _ (m : Content) (to : ℕ) (twigs : List Twig) (sound : IsSound m) (count : length twigs ≡ length (full_roots_of to))
    (fits : AllByRecursion TwigFits twigs) where
  -- where a root is stored, it ends by a bound
  abbrev EndsBy : ℕ → Subtree → Type 0
  EndsBy bound tree = is_some (m.node tree.depth tree.offset) ≡ true → end_block_of tree.depth tree.offset ≤ bound

  abbrev IsRoot : Subtree → Type 0
  IsRoot tree = IsFullRoot to tree.depth tree.offset

  abbrev kept : ℕ
  kept = kept_of m to twigs

  abbrev block : Blocks
  block = blocks_below kept m.block

  abbrev root_value : Values
  root_value = value_in (full_roots_of to) twigs

  abbrev value : Values
  value d o = or_value (root_value d o) (m.node d o)

  -- ---- bounds

  pub kept_within : kept ≤ to
  kept_within =
      kept-bound m.node (full_roots_of to) twigs 0 to (omega arith)
      (all_so IsRoot (EndsBy to) (λ tree root stored. root.within) (full_roots_of to) (all_roots to))

  pub kept_old : kept ≤ m.length
  kept_old =
      kept-bound m.node (full_roots_of to) twigs 0 m.length (omega arith)
      (all_so IsRoot (EndsBy m.length) (λ tree root stored.
      let twig = stored_value (m.node tree.depth tree.offset) stored in
      stored_within m sound.closed tree.depth tree.offset twig.0 twig.1) (full_roots_of to) (all_roots to))

  -- ---- values

  -- a full root has the value that came, which fits
  at_root : (d o : ℕ) → IsFullRoot to d o → (twig : Twig) × ((root_value d o ≡ Some twig) × (value d o ≡ Some twig))
  at_root d o root =
      let found = stored_value (root_value d o) (value_in-has (full_roots_of to) twigs d o count (root_contained to d o root)) in
      (found.0, (found.1, ap (λ (own : Option Twig). or_value own (m.node d o)) found.1))

  -- the content has no other value there
  pub own_root : (d o : ℕ) (twig : Twig) → IsFullRoot to d o → closed to block value d o ≡ Some twig → root_value d o ≡ Some twig
  own_root d o twig root is =
      let came = at_root d o root in
      let both : Some came.0 ≡ Some twig = sym came.1.1 ∙ (closed_some to block value d o twig is).1 in
      came.1.0 ∙ both

  at_root_alone : (d o : ℕ) (twig : Twig) → root_value d o ≡ Some twig → IsFullRoot to d o × TwigFits twig
  at_root_alone d o twig is =
      let there = value_in-some TwigFits (full_roots_of to) twigs d o twig fits is in
      (all_at (λ (tree : Subtree). IsFullRoot to tree.depth tree.offset) (full_roots_of to) (subtree d o) (all_roots to) there.0, there.1)

  -- what is below a root has the old one
  below_root : (d o : ℕ) → end_block_of (suc d) (o / 2) ≤ to → value d o ≡ m.node d o
  below_root d o within = elim (some_or_none (root_value d o)) [
    | inl found ↦ absurd (omega (arith, (at_root_alone d o found.0 found.1).0.largest, within))
    | inr none ↦ rw none refl
  ]

  -- ---- what is over a kept block

  -- the root over it is stored as it came
  root_kept : (index : ℕ) → index < kept → IsKept m.node (full_roots_of to) twigs (subtree (depth_over to index) (index / 2 ^ depth_over to index))
  root_kept index less =
      let top = depth_over to index in
      kept_over m.node (full_roots_of to) twigs 0 to (subtree top (index / 2 ^ top)) index (tile-full to)
      (root_contained to top (index / 2 ^ top) (full_root_over to index (omega (arith, less, kept_within)))) (inside_of top index) less

  -- each subtree over it in the log has the old value, and was in the old log
  pub record IsOld (d o : ℕ) : Type 0 where
    pub same : value d o ≡ m.node d o
    pub within : end_block_of d o ≤ m.length

  old_over : (index d : ℕ) → index < kept → end_block_of d (index / 2 ^ d) ≤ to → IsOld d (index / 2 ^ d)
  old_over index d less inside =
      let top = depth_over to index in
      let in_log : index < to = omega (arith, less, kept_within) in
      let root = root_kept index less in
      let stored : end_block_of top (index / 2 ^ top) ≤ m.length = stored_within m sound.closed top (index / 2 ^ top) root.twig root.stored in
      elim (cases_lt top d) [
        | inl past ↦ absurd (omega (arith, over_past to index d in_log past, inside))
        | inr low ↦
            let inner = nested_le index d top low in
            record {
              within = omega (arith, inner.last, stored);
              same = elim (cases_eq d top) [
                | inl is ↦
                    let beside : root_value top (index / 2 ^ top) ≡ Some root.twig = root.beside in
                    let own : value top (index / 2 ^ top) ≡ m.node top (index / 2 ^ top) = rw beside (sym root.stored) in
                    subst (λ (k : ℕ). value k (index / 2 ^ k) ≡ m.node k (index / 2 ^ k)) (sym is) own
                | inr other ↦
                    let above = over_within to index (suc d) in_log (omega (arith, low, other)) in
                    below_root d (index / 2 ^ d) (omega (arith, above, ap (end_block_of (suc d)) (over-suc index d)))
              ];
            }
      ]

  old_under : (d o : ℕ) → any_under (holds block) d o ≡ true → end_block_of d o ≤ to → IsOld d o
  old_under d o any inside =
      let there = any_under-held (holds block) d o any in
      let bytes = stored_value (block there.index) there.is_held in
      let less = (blocks_below-some kept m.block there.index bytes.0 bytes.1).0 in
      let over = inside_only d o there.index there.under.0 there.under.1 in
      subst (IsOld d) over (old_over there.index d less (omega (arith, inside, ap (end_block_of d) over)))

  old_held : (index : ℕ) → holds block index ≡ true → held m index ≡ true
  old_held index is_held =
      let bytes = stored_value (block index) is_held in
      ap is_some (blocks_below-some kept m.block index bytes.0 bytes.1).1

  -- ---- the content

  full : (d o : ℕ) → in_closure to (holds block) d o ≡ true → is_some (value d o) ≡ true
  full d o test = elim (cases_lt to (end_block_of (suc d) (o / 2))) [
    | inl past ↦
        let root : IsFullRoot to d o = record { within = (true_closure to (holds block) d o test).within; largest = past } in
        ap is_some (at_root d o root).1.1
    | inr within ↦
        let any = closure_under to (holds block) d (o / 2) o refl test within in
        let old = old_under (suc d) (o / 2) any within in
        let more = any_under-more (holds block) (held m) old_held (suc d) (o / 2) any in
        ap is_some (below_root d o within) ∙ sound.closed d o ∙ halves_in_closure m.length (held m) d (o / 2) o refl more old.within
  ]

  pairs : (d o : ℕ) (left right : Twig) → end_block_of (suc d) o ≤ to → any_under (holds block) (suc d) o ≡ true → value d (2 * o) ≡ Some left
      → value d (2 * o + 1) ≡ Some right → value (suc d) o ≡ Some (parent_of left right)
  pairs d o left right within any left_is right_is =
      let half = λ (p : ℕ) (is : p / 2 ≡ o). below_root d p (omega (arith, within, ap (end_block_of (suc d)) is)) in
      let parent = sound.pairs d o left right (sym (half (2 * o) (half_left o)) ∙ left_is) (sym (half (2 * o + 1) (half_right o)) ∙ right_is) in
      (old_under (suc d) o any within).same ∙ ap (λ (k : ℕ). m.node k o) (sym (add-one d)) ∙ parent

  leaves : (index : ℕ) (bytes : List ℕ) → block index ≡ Some bytes → value 0 index ≡ Some (leaf_of bytes)
  leaves index bytes is =
      let there = blocks_below-some kept m.block index bytes is in
      let under : IsUnder index 0 index = (omega (arith, leaf index), omega (arith, leaf index)) in
      let any = held-any_under (holds block) 0 index index (ap is_some is) under in
      (old_under 0 index any (omega (arith, leaf index, there.0, kept_within))).same ∙ sound.leaves index bytes there.1

  value_fits : (d o : ℕ) (twig : Twig) → value d o ≡ Some twig → TwigFits twig
  value_fits d o twig is = elim (some_or_none (root_value d o)) [
    | inl found ↦
        let own : value d o ≡ Some found.0 = rw found.1 refl in
        let both : Some found.0 ≡ Some twig = sym own ∙ is in
        let same : found.0 ≡ twig = cc in
        subst TwigFits same (at_root_alone d o found.0 found.1).1
    | inr none ↦ let old : value d o ≡ m.node d o = rw none refl in sound.fit d o twig (sym old ∙ is)
  ]

  sound_there : IsSoundOn to block value
  sound_there = record {
    blocks = record {
      below = λ index bytes is. omega (arith, (blocks_below-some kept m.block index bytes is).0, kept_within);
      size = λ index bytes is. sound.blocks.size index bytes (blocks_below-some kept m.block index bytes is).1;
    };
    complete = record { full = full; pairs = pairs };
    leaves = leaves;
    fit = λ d o twig here is. value_fits d o twig is;
  }

  pub reorganise_sound : (fork : ℕ) (signature : List ℕ) → IsSound (reorganise_content fork to twigs signature m)
  reorganise_sound fork signature = sound_on to block value fork signature sound_there
